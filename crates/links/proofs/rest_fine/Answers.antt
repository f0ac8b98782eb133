-- One comparison for label and target.
use Rattle.links.proofs.Laws.{one_test}
use Rattle.links.proofs.rest_fine.Goals as goal

pub returns : goal.returns
returns c = one_test _ _ _ c.bound.ensures
