-- r starts the run that p stands in (`Run`), and every item passed has its answer at its own place.
use mathlib.Core.Logic.{inl, inr}
use Prim.Native.Nat.{◌<◌}
use native.Mathlib.Omega.{arith}
use lib.ListN.{length, get_or}
use Rattle.meaning.specs.Level.{first}
use Rattle.marked.specs.Lowest.{same_marks}
use Rattle.marked.proofs.Laws.{run_next, store_next, all_met, item_small, led_marks}
use Rattle.marked.proofs.find_marked.Goals as goal
use Rattle.marked.proofs.find_marked.Goals.{then-s-p, else-s-p}

pub bounds-firsts-x : goal.bounds-firsts-x
bounds-firsts-x c =
    let a = c.args in
    let l = c.loop-p in
    omega (arith, item_small (λ x. get_or a.marks.now x 0) (length a.marks.now) a.s.now c.requires.few c.requires.listed l.p (omega arith))

pub loop-p-preserved : goal.loop-p-preserved
loop-p-preserved c =
    let a = c.args in
    let l = c.loop-p in
    let k : l.p < length a.marks.now = omega arith in
    let t =
    run_next a.s.now (length a.marks.now) l.r l.p c.if-s-p.r l.invariant.0 k (λ q m. c.requires.listed.up q l.p m k)
    (elim c.if-s-p.branch [ then-s-p w ↦ inl (w.if-s-p.true, w.r-is) | else-s-p w ↦ inr (w.if-s-p.false, w.r-is) ]) in
    let small = item_small (λ x. get_or a.marks.now x 0) (length a.marks.now) a.s.now c.requires.few c.requires.listed l.p k in (
      t.0,
      store_next (first (same_marks a.marks.now)) a.s.now l.firsts l.p _ l.invariant.1 (omega arith)
          (led_marks a.marks.now (length a.marks.now) a.s.now c.if-s-p.r l.p c.requires.few c.requires.listed k t.0 t.1 t.2),
    )

pub returns : goal.returns
returns c =
    let a = c.args in
    let l = c.loop-p in
    all_met (λ x. get_or a.marks.now x 0) (first (same_marks a.marks.now)) (length a.marks.now) a.s.now l.firsts c.requires.few c.requires.listed (λ q h. l.invariant.1 q (omega arith))
