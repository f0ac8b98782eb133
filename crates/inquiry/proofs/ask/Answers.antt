-- What was said from the item downwards is so; what was not is asked of all items.
use mathlib.Core.Path.{ap}
use Rattle.std.proofs.Common.{Ok}
use Rattle.inquiry.proofs.Laws.{told_so}
use Rattle.inquiry.proofs.ask.Goals as goal

pub returns-in-Ok : goal.returns-in-Ok
returns-in-Ok c = ap Ok (told_so _ _ _ c.requires.0 _ c.in-Ok.ensures)
