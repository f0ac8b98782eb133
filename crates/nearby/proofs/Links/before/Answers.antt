-- That way: the link before p is the item's, so that none below it has a later source.
use native.Mathlib.Omega.{arith}
use Rattle.meaning.specs.Register.{near}
use Rattle.nearby.proofs.Laws.{own_up}
use Rattle.nearby.proofs.Links.before.Goals as goal

pub ending-requires : goal.ending-requires
unfolding near
ending-requires c =
    (omega arith, own_up _ _ _ _ c.args.self.now.register.accepted _ c.requires.1 c.requires.2 (rw c.in-Outgoing.is at c.requires.3))

pub before_in-requires : goal.before_in-requires
unfolding near
before_in-requires c = (c.requires.1, c.requires.2, rw c.in-Incoming.is at c.requires.3)
