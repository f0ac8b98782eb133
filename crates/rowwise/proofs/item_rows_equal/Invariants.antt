-- Every item passed has the rows of its class.
use mathlib.Core.Path.{◌≡◌}
use mathlib.Core.Bool.{true}
use Prim.Native.Nat.{ℕ, ◌+◌, ◌<◌}
use lib.ListN.{get_or}
use Rattle.meaning.specs.Summary.{class_at}
use Rattle.meaning.specs.SummaryFile.{summary_in}
use Rattle.rowwise.specs.Rows.{class_rows, same_words}
use Rattle.rowwise.proofs.item_rows_equal.Given as goal

abbrev pub invariant-loop-x : goal.invariant-loop-x
invariant-loop-x l =
    let S = summary_in l.s.summary.bytes.now in
    (y : ℕ) → y < l.x → same_words l.words (get_or l.starts y 0) (get_or l.starts (y + 1) 0) (class_rows (class_at S y) S.rows) ≡ true
