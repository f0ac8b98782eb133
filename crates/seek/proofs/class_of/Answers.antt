-- A quotient, or the last class.
use Rattle.seek.proofs.Laws.{class_low, class_high}
use Rattle.seek.proofs.class_of.Goals as goal

pub returns-then-class-lt1023 : goal.returns-then-class-lt1023
returns-then-class-lt1023 c = class_low _ c.if-class-lt1023.true

pub returns-else-class-lt1023 : goal.returns-else-class-lt1023
returns-else-class-lt1023 c = class_high _ c.if-class-lt1023.false
