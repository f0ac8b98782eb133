-- The front is numbered, k is how many lowest items were passed.
use mathlib.Core.Path.{◌≡◌, refl, sym, ap, ◌∙◌}
use Prim.Native.Nat.{ℕ, ◌+◌, ◌<◌}
use native.Mathlib.Omega.{arith}
use lib.ListN.{length, get_or}
use Rattle.meaning.specs.Count.{sum, tab}
use Rattle.order.proofs.Front.{tab_whole}
use Rattle.marked.specs.Lowest.{number_of}
use Rattle.marked.proofs.Numbered.{owns_new, owns_old, turn_new, turn_old}
use Rattle.marked.proofs.number_firsts.Goals as goal
use Rattle.marked.proofs.number_firsts.Goals.{then-j-i, else-j-i}

pub loop-i-init : goal.loop-i-init
unfolding sum tab
loop-i-init c = (omega arith, refl, refl)

pub loop-i-preserved : goal.loop-i-preserved
loop-i-preserved c =
    let l = c.loop-i in
    let a = c.args in
    let h : l.i < length a.out.now = omega (arith, c.requires) in
    elim c.if-j-i.branch [
      | then-j-i w ↦ (
        omega arith,
        w.k-is ∙ ap (λ (k : ℕ). k + 1) l.invariant.1 ∙ sym (owns_new a.firsts.now l.i w.if-j-i.true),
        w.out-is ∙ rw l.invariant.2 (turn_new a.firsts.now l.i a.out.now l.k h w.if-j-i.true l.invariant.1),
      )
      | else-j-i w ↦
          let j = get_or a.firsts.now l.i 0 in
          let lt : j < l.i = omega (arith, w.if-j-i.false, c.requires.lowest.below l.i (omega arith)) in (
            omega arith,
            w.k-is ∙ l.invariant.1 ∙ sym (owns_old a.firsts.now l.i w.if-j-i.false),
            w.out-is ∙ rw l.invariant.2 (turn_old a.firsts.now l.i a.out.now j h refl lt (c.requires.lowest.again l.i (omega arith))),
          )
    ]

pub returns : goal.returns
returns c =
    let l = c.loop-i in
    let e : l.i ≡ length c.args.firsts.now = omega arith in
    (rw e at l.invariant.1, rw (l.invariant.2, e) (tab_whole (number_of c.args.firsts.now) _ c.args.out.now (omega arith)))
