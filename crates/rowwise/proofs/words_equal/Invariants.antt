-- Every word passed is that of its row.
use mathlib.Core.Path.{◌≡◌}
use mathlib.Core.Bool.{true}
use Prim.Native.Nat.{ℕ, ◌+◌, ◌<◌}
use lib.Dec.{eqb}
use lib.ListN.{get_or}
use Rattle.meaning.specs.Summary.{row_of}
use Rattle.meaning.specs.SummaryFile.{summary_in}
use Rattle.surround.specs.Surroundings.{word_of}
use Rattle.rowwise.proofs.words_equal.Given as goal

abbrev pub invariant-loop-j : goal.invariant-loop-j
invariant-loop-j l = (i : ℕ) → i < l.j → eqb (get_or l.words (l.from + i) 0) (word_of (row_of (summary_in l.s.summary.bytes.now) (l.low + i))) ≡ true
