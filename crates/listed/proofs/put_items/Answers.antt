-- The items before x that are on the list stand there.
use native.Mathlib.Omega.{arith}
use mathlib.Core.Path.{◌≡◌, sym, ap, ◌∙◌}
use mathlib.Core.Bool.{false}
use Prim.Native.Nat.{ℕ, ◌<◌}
use lib.ListN.{length, get_or}
use Rattle.header.proofs.File.{few_items}
use Rattle.listed.specs.Passing.{passes}
use Rattle.listed.proofs.Laws.{at_most, one_more, none_more}
use Rattle.listed.proofs.put_items.Goals.{then-answers-index, else-answers-index}
use Rattle.listed.proofs.put_items.Goals as goal

pub loop-x-preserved : goal.loop-x-preserved
loop-x-preserved c =
    let p = passes c.args.s.now.bytes.now c.args.answers.now in
    let l = c.loop-x in
    let at : get_or c.args.answers.now c.index.result false ≡ p l.x =
    ap (λ (k : ℕ). get_or c.args.answers.now k false) (c.index.ensures ∙ c.class_of-class.ensures) in
    elim c.if-answers-index.branch [
      | then-answers-index w ↦
          let room : l.r < length l.out = omega (arith, few_items _ c.requires.0, at_most p l.x) in
          let e = one_more p l.x l.r l.out l.invariant.0 l.invariant.1 room (sym at ∙ w.if-answers-index.true) in
          (w.r-is ∙ e.0, rw (w.r-is, w.out-is) e.1, omega arith)
      | else-answers-index w ↦
          let e = none_more p l.x l.r l.out l.invariant.0 l.invariant.1 (sym at ∙ w.if-answers-index.false) in
          (w.r-is ∙ e.0, rw (w.r-is, w.out-is) e.1, omega arith)
    ]
