-- Two numbers of two bytes.
use native.Mathlib.Omega.{arith}
use Rattle.meaning.specs.RegisterFile.{link_at}
use Rattle.links.proofs.rest_at.Goals as goal

pub returns : goal.returns
unfolding link_at
returns c = (rw (c.two-label.ensures, c.two-target.ensures), omega (arith, c.two-target.ensures))
