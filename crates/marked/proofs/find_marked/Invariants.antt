-- r starts the run that p stands in (`Run`), and every item passed has its answer at its own place.
use mathlib.Core.Path.{◌≡◌}
use Prim.Native.Nat.{ℕ, ◌<◌}
use lib.ListN.{get_or}
use Rattle.meaning.specs.Level.{first}
use Rattle.marked.specs.Lowest.{item}
use Rattle.marked.specs.Lowest.{same_marks}
use Rattle.marked.proofs.Laws.{Run}
use Rattle.marked.proofs.find_marked.Given as goal

abbrev pub invariant-loop-p : goal.invariant-loop-p
invariant-loop-p l =
    Run l.s l.r l.p × ((q : ℕ) → q < l.p → get_or l.firsts (item l.s q) 0 ≡ first (same_marks l.marks) (item l.s q))
