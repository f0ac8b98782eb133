-- An item that has other rows than its class decides.
use mathlib.Core.Path.{sym, ap, ◌∙◌}
use Prim.Native.Nat.{ℕ, ◌+◌}
use lib.ListN.{get_or}
use Rattle.meaning.specs.SummaryFile.{summary_in}
use Rattle.theory.proofs.CountLaws.{all_no}
use Rattle.rowwise.specs.Rows.{class_rows, same_words}
use Rattle.rowwise.proofs.item_rows_equal.Goals as goal

pub returns-then-not-class_rows_equal : goal.returns-then-not-class_rows_equal
returns-then-not-class_rows_equal c =
    let x = c.loop-x.x in
    let starts = c.args.starts.now in
    let said =
    c.class_rows_equal.ensures
    ∙ ap
    (λ (k : ℕ). same_words c.args.words.now (get_or starts x 0) (get_or starts (x + 1) 0) (class_rows k (summary_in c.args.s.now.summary.bytes.now).rows))
    c.class_of-class.ensures in
    sym (all_no _ c.args.n x c.loop-x-test.true (sym said ∙ c.if-not-class_rows_equal.true))
