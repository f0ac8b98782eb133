-- The classes of the items passed are written.
use Rattle.std.proofs.Common.{arith}
use Rattle.counted.proofs.Laws.{class_put}
use Rattle.counted.proofs.put_classes.Goals as goal

pub overflow_cast-x : goal.overflow_cast-x
overflow_cast-x c = omega (arith, c.requires.0.few_items)

pub class_of-class-requires : goal.class_of-class-requires
class_of-class-requires c = omega (arith, c.requires.0.items_same)

pub loop-x-preserved : goal.loop-x-preserved
loop-x-preserved c = class_put _ c.loop-x.classes c.loop-x.x _ (omega arith) c.class_of-class.ensures c.loop-x.invariant
