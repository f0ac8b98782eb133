-- The number of a way, case by case.
use native.Mathlib.Omega.{arith}
use Rattle.meaning.specs.WellFormed.{way}
use Rattle.surround.proofs.way_number.Goals as goal

pub returns-in-Outgoing : goal.returns-in-Outgoing
unfolding way
returns-in-Outgoing c = (rw c.in-Outgoing.is, omega (arith, c.requires))

pub returns-in-Incoming : goal.returns-in-Incoming
unfolding way
returns-in-Incoming c = (rw c.in-Incoming.is, omega (arith, c.requires))
