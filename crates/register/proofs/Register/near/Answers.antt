-- The near end of a link is its source where it goes out, and its target where it comes in.
use Rattle.meaning.specs.Register.{near}
use Rattle.register.proofs.Register.near.Goals as goal

pub returns-in-Outgoing : goal.returns-in-Outgoing
unfolding near
returns-in-Outgoing c = rw c.in-Outgoing.is c.source.ensures

pub returns-in-Incoming : goal.returns-in-Incoming
unfolding near
returns-in-Incoming c = rw c.in-Incoming.is c.target.ensures
