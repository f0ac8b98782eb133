-- r starts the run that p stands in (`Run`), and every item passed has its answer at its own place.
use mathlib.Core.Path.{◌∙◌}
use Prim.Native.Nat.{◌<◌}
use mathlib.Core.Logic.{inl, inr}
use native.Mathlib.Omega.{arith}
use lib.ListN.{length}
use Rattle.meaning.specs.Level.{first}
use Rattle.signature.specs.Signature.{alike_sig, hash_sig}
use Rattle.marked.proofs.Laws.{run_next, store_next, all_met, item_small}
use Rattle.signature.proofs.Laws.{led}
use Rattle.signature.proofs.Signatures.find_firsts.Goals as goal
use Rattle.signature.proofs.Signatures.find_firsts.Goals.{then-s-p, else-s-p}

pub leader-y-requires-clause-items : goal.leader-y-requires-clause-items
leader-y-requires-clause-items c =
    let a = c.args in
    let s = a.self.now in
    item_small (hash_sig s.groups.now s.starts.now s.rows.now) (length s.groups.now) a.s.now s.laid.few c.requires.listed

pub bounds-firsts-x : goal.bounds-firsts-x
bounds-firsts-x c =
    let a = c.args in
    let s = a.self.now in
    omega (arith, item_small (hash_sig s.groups.now s.starts.now s.rows.now) (length s.groups.now) a.s.now s.laid.few c.requires.listed c.loop-p.p (omega arith))

pub loop-p-preserved : goal.loop-p-preserved
loop-p-preserved c =
    let a = c.args in
    let s = a.self.now in
    let n = length s.groups.now in
    let hash = hash_sig s.groups.now s.starts.now s.rows.now in
    let like = alike_sig s.groups.now s.starts.now s.rows.now in
    let l = c.loop-p in
    let k : l.p < n = omega arith in
    let t =
    run_next a.s.now n l.r l.p c.if-s-p.r l.invariant.0 k (λ q m. c.requires.listed.up q l.p m k)
    (elim c.if-s-p.branch [ then-s-p w ↦ inl (w.if-s-p.true, w.r-is) | else-s-p w ↦ inr (w.if-s-p.false, w.r-is) ]) in
    let small = item_small hash n a.s.now s.laid.few c.requires.listed l.p k in (
      t.0,
      store_next (first like) a.s.now l.firsts l.p _ l.invariant.1 (omega arith)
          (c.leader-y.ensures.0 ∙ led s.groups.now s.starts.now s.rows.now n a.s.now c.if-s-p.r l.p s.laid.few c.requires.listed k t.0 t.1 t.2),
    )

pub returns : goal.returns
returns c =
    let a = c.args in
    let s = a.self.now in
    let hash = hash_sig s.groups.now s.starts.now s.rows.now in
    let like = alike_sig s.groups.now s.starts.now s.rows.now in
    all_met hash (first like) (length s.groups.now) a.s.now c.loop-p.firsts s.laid.few c.requires.listed (λ q h. c.loop-p.invariant.1 q (omega arith))
