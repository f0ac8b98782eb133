-- Every number passed is a key, and the marks stand at those keys.
use Rattle.std.proofs.Common.{◌≡◌, refl, sym, ◌∙◌, arith, below_more, length, eqb}
use mathlib.Core.Bool.{false≢true}
use lib.Seq.{take-length}
use Rattle.meaning.specs.Count.{any}
use Rattle.seek.proofs.Laws.{marks_none, marks_next, each_passes, each_fails}
use Rattle.seek.proofs.ByClass.mark_all.Goals as goal

pub loop-number-init : goal.loop-number-init
loop-number-init c =
    (refl, (λ k h. absurd (omega arith)), marks_none c.args.self.now.ascending.keys.now c.args.marked.now c.requires.1)

pub returns-then-not-mark : goal.returns-then-not-mark
returns-then-not-mark c =
    let l = c.loop-number in (
      each_fails (λ k. any (eqb k) c.args.self.now.ascending.keys.now) c.args.needed.now l.number-index (omega arith)
          (sym c.mark.ensures.0 ∙ c.if-not-mark.true),
      λ e. absurd (false≢true e),
    )

pub loop-number-preserved : goal.loop-number-preserved
loop-number-preserved c =
    let l = c.loop-number in (
      omega arith,
      below_more _ _ l.invariant.1 (sym c.mark.ensures.0 ∙ c.if-not-mark.false),
      marks_next c.args.self.now.ascending.keys.now c.args.needed.now l.number-index l.marked _ (omega arith) l.invariant.2 c.mark.ensures.1,
    )

pub returns : goal.returns
returns c =
    let l = c.loop-number in
    let keys = c.args.self.now.ascending.keys.now in
    let e : l.number-index ≡ length c.args.needed.now = omega arith in (
      each_passes (λ k. any (eqb k) keys) c.args.needed.now (λ k h. l.invariant.1 k (omega arith)),
      λ t. rw take-length at (rw e at l.invariant.2),
    )
