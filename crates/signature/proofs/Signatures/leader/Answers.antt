-- The search from q on gives what the search from r on does.
use mathlib.Core.Path.{◌≡◌, sym, ap, ◌∙◌}
use mathlib.Core.Bool.{Bool, true, false}
use Prim.Native.Nat.{ℕ}
use native.Mathlib.Omega.{arith}
use Rattle.marked.specs.Lowest.{item}
use Rattle.signature.specs.Signature.{alike_sig}
use Rattle.order.proofs.Front.{seek_found, seek_next, seek_over}
use Rattle.signature.proofs.Signatures.leader.Goals as goal

pub returns-then-same : goal.returns-then-same
returns-then-same c =
    let a = c.args in
    let s = a.self.now in
    let t : ℕ → Bool = λ q. alike_sig s.groups.now s.starts.now s.rows.now (item a.s.now q) (item a.s.now a.p) in
    let l = c.loop-q in
    let y : t l.q ≡ true = sym c.same.ensures ∙ c.if-same.true in
    (ap (item a.s.now) (sym (seek_found t l.q a.p (omega arith) y) ∙ l.invariant.1), c.requires.items l.q (omega arith))

pub loop-q-preserved : goal.loop-q-preserved
loop-q-preserved c =
    let a = c.args in
    let s = a.self.now in
    let t : ℕ → Bool = λ q. alike_sig s.groups.now s.starts.now s.rows.now (item a.s.now q) (item a.s.now a.p) in
    let l = c.loop-q in
    let y : t l.q ≡ false = sym c.same.ensures ∙ c.if-same.false in
    (omega arith, sym (seek_next t l.q a.p (omega arith) y) ∙ l.invariant.1)

pub returns : goal.returns
returns c =
    let a = c.args in
    let s = a.self.now in
    let t : ℕ → Bool = λ q. alike_sig s.groups.now s.starts.now s.rows.now (item a.s.now q) (item a.s.now a.p) in
    let l = c.loop-q in
    let e : l.q ≡ a.p = omega arith in
    (ap (item a.s.now) (sym e ∙ sym (seek_over t l.q a.p (omega arith)) ∙ l.invariant.1), c.requires.items a.p (omega arith))
