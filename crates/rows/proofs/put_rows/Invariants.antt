-- There is a number below which all keys are done (`Done`), at most the present item's first key.
use mathlib.Core.Path.{◌≡◌}
use mathlib.Core.List.{◌++◌}
use Prim.Native.Nat.{ℕ, ◌+◌, ◌-◌, ◌≤◌}
use lib.ListN.{length, drop}
use Rattle.meaning.specs.Count.{tab}
use Rattle.rows.specs.Rows.{start_of}
use Rattle.rows.proofs.Laws.{Done}
use Rattle.rows.proofs.put_rows.Given as goal

abbrev pub invariant-loop-x : goal.invariant-loop-x
invariant-loop-x l =
    (l.x ≤ l.n + 1) × (l.starts ≡ tab (start_of l.mu l.s (length l.s)) l.x ++ drop l.x l.initial.starts)
    × ((low : ℕ) × Done l.mu l.s (length l.s) l.n l.x l.p l.j l.initial.rows l.rows low)

abbrev pub decreases-loop-x : goal.decreases-loop-x
decreases-loop-x l = (l.n + 1 - l.x) + ((length l.s) - l.p)
