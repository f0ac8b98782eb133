-- There is a number below which all keys are done (`Done`), at most the present item's first key.
use mathlib.Core.Path.{◌≡◌, ap}
use Prim.Native.Nat.{ℕ, ◌+◌, ◌*◌, ◌%◌, ◌<◌}
use native.Mathlib.Omega.{arith}
use lib.ListN.{length}
use Rattle.order.proofs.Front.{tab_none, tab_more}
use Rattle.rows.specs.Rows.{start_of}
use Rattle.rows.proofs.Laws.{done_none, done_row, done_item, done_all, not_past}
use Rattle.rows.proofs.put_rows.Goals as goal

pub loop-x-init : goal.loop-x-init
loop-x-init c =
    let a = c.args in
    (omega arith, tab_none (start_of a.mu a.s.now (length a.s.now)) a.starts.now, (0, done_none a.mu a.s.now (length a.s.now) a.n a.rows.now))

pub overflow_add-rows : goal.overflow_add-rows
overflow_add-rows c = omega (arith, c.run_from-run.ensures.1)

pub bounds-rows-j : goal.bounds-rows-j
bounds-rows-j c =
    let a = c.args in
    let l = c.loop-x in
    let d = l.invariant.2.1 in
    let h : l.p < length a.s.now = not_past l.p (length a.s.now) _ _ c.key_or-v.ensures.1 c.if-v-stop.true in
    omega (arith, d.few)

pub overflow_add-j : goal.overflow_add-j
overflow_add-j c =
    let a = c.args in
    let l = c.loop-x in
    let d = l.invariant.2.1 in
    let h : l.p < length a.s.now = not_past l.p (length a.s.now) _ _ c.key_or-v.ensures.1 c.if-v-stop.true in
    omega (arith, d.few)

pub loop-x-smaller-then-v-stop : goal.loop-x-smaller-then-v-stop
loop-x-smaller-then-v-stop c =
    let a = c.args in
    let l = c.loop-x in
    let d = l.invariant.2.1 in
    let h : l.p < length a.s.now = not_past l.p (length a.s.now) _ _ c.key_or-v.ensures.1 c.if-v-stop.true in
    omega (arith, d.few, c.run_from-run.ensures.0.some, c.run_from-run.ensures.0.within)

pub loop-x-preserved-then-v-stop : goal.loop-x-preserved-then-v-stop
loop-x-preserved-then-v-stop c =
    let a = c.args in
    let l = c.loop-x in
    let d = l.invariant.2.1 in
    let h : l.p < length a.s.now = not_past l.p (length a.s.now) _ _ c.key_or-v.ensures.1 c.if-v-stop.true in
    let r = c.run_from-run.ensures in (
      omega arith,
      l.invariant.1,
      (
        c.key_or-v.result + 1,
        done_row a.mu a.s.now (length a.s.now) a.n l.x l.p l.j a.rows.now l.rows l.invariant.2.0 d c.requires.sorted
            c.key_or-v.result _ _ h (c.key_or-v.ensures.0 h) c.if-v-stop.true (omega arith) r.0 (omega (arith, c.requires))
            (ap (λ (m : ℕ). c.key_or-v.result % 32768 * 16 + m) r.1),
      ),
    )

pub overflow_cast-starts : goal.overflow_cast-starts
overflow_cast-starts c =
    omega (arith, c.loop-x.invariant.2.1.few, c.loop-x.invariant.2.1.places, c.requires)

pub loop-x-preserved : goal.loop-x-preserved
loop-x-preserved c =
    let a = c.args in
    let l = c.loop-x in
    let e = c.key_or-v.ensures.0 in
    let d =
    done_item a.mu a.s.now (length a.s.now) a.n l.x l.p l.j a.rows.now l.rows l.invariant.2.0 l.invariant.2.1 c.requires.sorted (omega arith)
    (λ h. omega (arith, e h, c.if-v-stop.false)) in (
      omega arith,
      rw l.invariant.1 (tab_more (start_of a.mu a.s.now (length a.s.now)) l.x l.j a.starts.now (omega (arith, c.requires)) d.1),
      (l.x * 32768, d.0),
    )

pub returns : goal.returns
returns c =
    let a = c.args in
    let l = c.loop-x in
    let e : l.x ≡ a.n + 1 = omega arith in
    let d = done_all a.mu a.s.now (length a.s.now) a.n l.x l.p l.j a.rows.now l.rows l.invariant.2.0 l.invariant.2.1 (omega arith) in
    (d.0, d.1, rw e at l.invariant.1)
