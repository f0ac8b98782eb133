-- `fine` passes exactly when each link is in range and comes after the one before. The invariant: link k was read and comes after the
-- one before, and the links before it are in range and in order, but for their sources, which are not above that of link k.
use mathlib.Core.Path.{refl, sym, ◌∙◌}
use Prim.Native.Nat.{◌+◌}
use native.Mathlib.Omega.{arith}
use Rattle.theory.proofs.CountLaws.{all_no}
use Rattle.links.proofs.Laws.{follows, all_follow, none_follow, read_at, hand_first, hand_out, hand_beyond, hand_falls, hand_next, hand_last}
use Rattle.links.proofs.fine.Goals as goal

pub returns-then-m-eq0 : goal.returns-then-m-eq0
returns-then-m-eq0 c = none_follow _ _ _ _ (omega arith)

pub loop-k-init : goal.loop-k-init
loop-k-init c =
    let r = c.rest_at-rest in (
      omega arith,
      omega arith,
      hand_first _ _ _ _ _ _
          (read_at c.args.b.now c.args.at c.args.n 0 c.args.at _ _ _ (omega arith) c.two-source.ensures r.ensures.0
          r.ensures.1 refl),
    )

pub returns-then-not-rest_fine : goal.returns-then-not-rest_fine
returns-then-not-rest_fine c =
    let l = c.loop-k in
    let a = c.args in
    sym (all_no (follows a.b.now a.at a.n) a.m l.k (omega arith)
    (hand_out _ _ _ _ _ _ _ l.invariant.2.read (sym c.rest_fine.ensures ∙ c.if-not-rest_fine.true)))
    ∙ all_follow _ _ _ _

pub returns-then-next-key : goal.returns-then-next-key
returns-then-next-key c =
    let l = c.loop-k in
    let a = c.args in
    let r = c.rest_at-rest-in-loop-k in
    let next = read_at a.b.now a.at a.n (l.k + 1) _ _ _ _ refl c.two-source-in-loop-k.ensures r.ensures.0 r.ensures.1 refl in
    sym (all_no (follows a.b.now a.at a.n) a.m (l.k + 1) (omega arith)
    (hand_falls _ _ _ _ _ _ _ l.invariant.2 _ _ _ next c.if-next-key.true))
    ∙ all_follow _ _ _ _

pub loop-k-preserved : goal.loop-k-preserved
loop-k-preserved c =
    let l = c.loop-k in
    let a = c.args in
    let r = c.rest_at-rest-in-loop-k in
    let next = read_at a.b.now a.at a.n (l.k + 1) _ _ _ _ refl c.two-source-in-loop-k.ensures r.ensures.0 r.ensures.1 refl in
    let yes = sym c.rest_fine.ensures ∙ c.if-not-rest_fine.false in
    (omega arith, omega arith, hand_next _ _ _ _ _ _ _ l.invariant.2 _ _ _ next yes c.if-next-key.false)

pub returns-then-n-source : goal.returns-then-n-source
returns-then-n-source c =
    let l = c.loop-k in
    let a = c.args in
    sym (all_no (follows a.b.now a.at a.n) a.m l.k (omega arith) (hand_beyond _ _ _ _ _ _ _ l.invariant.2.read c.if-n-source.true))
    ∙ all_follow _ _ _ _

pub returns : goal.returns
returns c =
    let l = c.loop-k in
    c.rest_fine-2.ensures ∙ hand_last _ _ _ _ _ _ _ _ (omega arith) l.invariant.2 c.if-n-source.false
