-- Behind all keys, or among those from the class's start to the next class's.
use Rattle.std.proofs.Common.{refl}
use Rattle.seek.proofs.Laws.{laid_beyond, laid_near, laid_order}
use Rattle.seek.proofs.ByClass.find.Goals as goal

pub returns-then-self-class : goal.returns-then-self-class
returns-then-self-class c = laid_beyond _ _ _ c.args.self.now.laid _ _ _ c.class_of-class.ensures c.if-self-class.true refl

pub overflow_sub-to : goal.overflow_sub-to
overflow_sub-to c = laid_order _ _ _ c.args.self.now.laid c.class_of-class.result c.if-self-class.false

pub step-requires : goal.step-requires
step-requires c = laid_near _ _ _ c.args.self.now.laid _ _ _ c.class_of-class.ensures c.if-self-class.false refl

pub halve-requires : goal.halve-requires
halve-requires c = laid_near _ _ _ c.args.self.now.laid _ _ _ c.class_of-class.ensures c.if-self-class.false refl
