-- None from where the search ends is the item's, so that the last below it is the last of all.
use Rattle.nearby.proofs.Laws.{last_behind}
use Rattle.nearby.proofs.Links.last_out.Goals as goal

pub returns : goal.returns
returns c =
    last_behind _ _ _ _ c.args.self.now.register.accepted _ _ c.past.ensures.1 c.past.ensures.0 c.ending.ensures
