-- Each item of the row is written true.
use mathlib.Core.Bool.{true}
use Rattle.table.proofs.Laws.{Part}
use Rattle.table.proofs.put_true.Given as goal

abbrev pub invariant-loop-x : goal.invariant-loop-x
invariant-loop-x l = Part l.initial.table l.table l.j (λ y. true) l.x
