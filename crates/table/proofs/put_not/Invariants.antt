-- Each item of the row is the negation of the row behind it.
use mathlib.Core.Bool.{not}
use Prim.Native.Nat.{◌+◌}
use Rattle.table.specs.Row.{row}
use Rattle.table.proofs.Laws.{Part}
use Rattle.table.proofs.put_not.Given as goal

abbrev pub invariant-loop-x : goal.invariant-loop-x
invariant-loop-x l = Part l.initial.table l.table l.j (λ y. not (row l.initial.table (l.j + 1) y)) l.x
