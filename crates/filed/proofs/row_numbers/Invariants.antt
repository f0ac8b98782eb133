-- The items passed are done (`Under`); once all are, the rows are the summary's.
use Rattle.std.proofs.Common.{◌≡◌, length}
use Rattle.filed.proofs.Laws.{Under}
use Rattle.filed.proofs.row_numbers.Given as goal

abbrev pub invariant-loop-x : goal.invariant-loop-x
invariant-loop-x l = (length l.out ≡ 16384) × Under (length l.classes) l.classes l.starts l.rows l.initial.out l.out l.x l.seen l.at
