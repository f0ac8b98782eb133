-- The far end of a link is its target where it goes out, and its source where it comes in.
use Rattle.meaning.specs.Register.{far}
use Rattle.register.proofs.Register.far.Goals as goal

pub returns-in-Outgoing : goal.returns-in-Outgoing
unfolding far
returns-in-Outgoing c = rw c.in-Outgoing.is c.target.ensures

pub returns-in-Incoming : goal.returns-in-Incoming
unfolding far
returns-in-Incoming c = rw c.in-Incoming.is c.source.ensures
