-- The first j rows are in range and ascend, and their keys are kept: `least` is the least key that the next may have.
use mathlib.Core.Path.{◌≡◌}
use mathlib.Core.Bool.{true}
use Prim.Native.Nat.{ℕ, ◌<◌}
use lib.ListN.{get_or}
use Rattle.theory.proofs.CountLaws.{past}
use Rattle.meaning.specs.SummaryFile.{summary_in}
use Rattle.wellformed.proofs.Loops.{key, row_rises}
use Rattle.wellformed.proofs.rows_fine.Given as goal

abbrev pub invariant-loop-j : goal.invariant-loop-j
invariant-loop-j l = record {
  least_is : l.least ≡ past (key (summary_in l.s.bytes.now)) l.j;
  rising : (i : ℕ) → i < l.j → row_rises (summary_in l.s.bytes.now) i ≡ true;
  kept : (i : ℕ) → i < l.j → get_or l.keys i 0 ≡ key (summary_in l.s.bytes.now) i;
}
