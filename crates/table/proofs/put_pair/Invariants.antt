-- Each item of the row is made of the two rows behind it.
use Prim.Native.Nat.{◌+◌}
use Rattle.table.specs.Row.{row, paired}
use Rattle.table.proofs.Laws.{Part}
use Rattle.table.proofs.put_pair.Given as goal

abbrev pub invariant-loop-x : goal.invariant-loop-x
invariant-loop-x l = Part l.initial.table l.table l.j (λ y. paired l.any (row l.initial.table (l.j + 1) y) (row l.initial.table l.k y)) l.x
