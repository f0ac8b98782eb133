-- Every item passed has the marks of its class.
use Rattle.std.proofs.Common.{◌∙◌, ℕ, sym, ap, arith, below_more}
use Rattle.meaning.specs.Summary.{class_of}
use Rattle.meaning.specs.SummaryFile.{summary_in}
use Rattle.theory.proofs.CountLaws.{all_yes, all_no}
use Rattle.lists.proofs.Laws.{told_yes, told_no}
use Rattle.counted.proofs.marks_equal.Goals as goal

pub overflow_cast-item : goal.overflow_cast-item
overflow_cast-item c = omega (arith, c.args.p.now.proposed.few_items)

pub class_of-class-requires : goal.class_of-class-requires
class_of-class-requires c = omega (arith, c.args.p.now.proposed.items_same)

pub marks-requires-in-loop-x : goal.marks-requires-in-loop-x
marks-requires-in-loop-x c = omega (arith, c.class_of-class.ensures, c.args.p.now.proposed.class_in c.loop-x.x (omega arith))

pub returns-then-marks : goal.returns-then-marks
returns-then-marks c =
    let class = c.class_of-class.ensures in
    let S = summary_in c.args.p.now.summary.bytes.now in
    sym (all_no _ c.args.p.now.register.items c.loop-x.x (omega arith)
    (told_no _ _ _ _ c.marks.ensures (c.marks-in-loop-x.ensures ∙ ap (λ (k : ℕ). (class_of S k).marks) class) c.if-marks.true))

pub loop-x-preserved : goal.loop-x-preserved
loop-x-preserved c =
    let class = c.class_of-class.ensures in
    let S = summary_in c.args.p.now.summary.bytes.now in
    below_more _ _ c.loop-x.invariant
    (told_yes _ _ _ _ c.marks.ensures (c.marks-in-loop-x.ensures ∙ ap (λ (k : ℕ). (class_of S k).marks) class) c.if-marks.false)

pub returns : goal.returns
returns c = sym (all_yes _ c.args.p.now.register.items (λ y h. c.loop-x.invariant y (omega arith)))
