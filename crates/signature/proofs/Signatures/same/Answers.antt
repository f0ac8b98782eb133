-- j words are the same.
use mathlib.Core.Path.{◌≡◌, refl, sym, ◌∙◌}
use Prim.Native.Nat.{◌<◌}
use native.Mathlib.Omega.{arith}
use lib.Dec.{eqb}
use Rattle.meaning.specs.Count.{all}
use Rattle.order.proofs.Front.{all_next}
use borrow.Author.Tests.{eq-eqb}
use Rattle.signature.specs.Signature.{size, word}
use Rattle.signature.proofs.Laws.{sig_yes, sig_no1, sig_no2, sig_no3}
use Rattle.signature.proofs.Signatures.same.Goals as goal

pub returns-then-self-x : goal.returns-then-self-x
returns-then-self-x c = let s = c.args.self.now in sym (sig_no1 s.groups.now s.starts.now s.rows.now c.args.x c.args.y c.if-self-x.true)

pub returns-then-of_x-of_y : goal.returns-then-of_x-of_y
returns-then-of_x-of_y c =
    let s = c.args.self.now in
    sym (sig_no2 s.groups.now s.starts.now s.rows.now c.args.x c.args.y (λ e. c.if-of_x-of_y.true (omega arith)))

pub loop-j-init : goal.loop-j-init
unfolding all
loop-j-init c = refl

pub returns-then-w-of_y : goal.returns-then-w-of_y
returns-then-w-of_y c =
    let a = c.args in
    let s = a.self.now in
    let j = c.loop-j.j in
    let h : j < size s.starts.now a.x = omega arith in
    let k : j < size s.starts.now a.y = omega arith in
    sym (sig_no3 s.groups.now s.starts.now s.rows.now a.x a.y j h
    (λ e. c.if-w-of_y.true (c.rows_of-of_x.ensures.1 j h ∙ e ∙ sym (c.rows_of-of_y.ensures.1 j k))))

pub loop-j-preserved : goal.loop-j-preserved
loop-j-preserved c =
    let a = c.args in
    let s = a.self.now in
    let j = c.loop-j.j in
    let h : j < size s.starts.now a.x = omega arith in
    let k : j < size s.starts.now a.y = omega arith in
    all_next (λ j. eqb (word s.starts.now s.rows.now a.x j) (word s.starts.now s.rows.now a.y j)) j c.loop-j.invariant
    (eq-eqb _ _ (sym (c.rows_of-of_x.ensures.1 j h) ∙ c.if-w-of_y.false ∙ c.rows_of-of_y.ensures.1 j k))

pub returns : goal.returns
returns c =
    let a = c.args in
    let s = a.self.now in
    let e : c.loop-j.j ≡ size s.starts.now a.x = omega arith in
    let same : size s.starts.now a.x ≡ size s.starts.now a.y = omega arith in
    sym (sig_yes s.groups.now s.starts.now s.rows.now a.x a.y c.if-self-x.false same (rw e at c.loop-j.invariant))
