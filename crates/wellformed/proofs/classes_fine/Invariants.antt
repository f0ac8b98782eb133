-- The first k classes are in range, and their groups are marked.
use mathlib.Core.Path.{◌≡◌}
use mathlib.Core.Bool.{true}
use Prim.Native.Nat.{ℕ, ◌<◌}
use lib.ListN.{length}
use Rattle.meaning.specs.Summary.{class_of}
use Rattle.meaning.specs.WellFormed.{class_in}
use Rattle.meaning.specs.SummaryFile.{summary_in}
use Rattle.wellformed.proofs.Loops.{Marked}
use Rattle.wellformed.proofs.classes_fine.Given as goal

abbrev pub invariant-loop-k : goal.invariant-loop-k
invariant-loop-k l = record {
  fine : (i : ℕ) → i < l.k → class_in (summary_in l.s.bytes.now) (class_of (summary_in l.s.bytes.now) i) ≡ true;
  marked : Marked (summary_in l.s.bytes.now) l.used l.k;
  long : length l.used ≡ 1024;
}
