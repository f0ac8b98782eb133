-- The class list read at an item.
use Rattle.edges.proofs.Laws.{class_read}
use Rattle.edges.proofs.class_at.Goals as goal

pub returns : goal.returns
returns c = class_read c.args.classes.now c.args.x.0 _ c.requires.0 c.requires.1 c.index.ensures
