-- A number of the map stands within the file.
use native.Mathlib.Omega.{arith}
use Rattle.reader.proofs.Laws.{item_placed}
use Rattle.fields.proofs.greatest.Goals as goal

pub two-class-requires : goal.two-class-requires
two-class-requires c = omega (arith, (item_placed _ c.args.s.now.exact c.loop-x.x _ (omega arith) c.two-at.ensures).1)
