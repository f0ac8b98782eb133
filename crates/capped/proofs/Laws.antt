-- A capped count stands for what was counted: the promises of its methods, put together. That capping a sum of capped counts is
-- capping the sum, and that a threshold up to the cap plus one sees no cap, are laws of `cap` (theory: CapLaws).
use mathlib.Core.Path.{◌≡◌, refl, sym, ap, subst, ◌∙◌}
use mathlib.Core.List.{List}
use Prim.Native.Nat.{ℕ, ◌+◌, ◌≤◌, ◌<◌}
use native.Mathlib.Omega.{arith}
use native.Mathlib.Numerals.{add-one}
use borrow.Author.Tests.{le-leb, leb-true, leb-false, eq-eqb, ne_eqb}
use lib.Dec.{leb, eqb}
use lib.ListN.{get_or, length, set, replicate, get_or-replicate}
use lib.Seq.{get_or-set_same, get_or-set_other}
use Rattle.meaning.specs.Cap.{cap}
use Rattle.meaning.specs.Count.{sum, tally}
use Rattle.theory.proofs.CountLaws.{by_bool, by_eq, bool_iff}
use Rattle.theory.proofs.CapLaws.{leb_capped}
use Rattle.capped.specs.declared.Capped.{Capped}
use Rattle.capped.specs.Stands.{Stands, Starts, Takes, count_at, ByClass}

-- standing for x is being x capped
pub stands_cap : (c : Capped) (x : ℕ) → c.number ≡ cap c.cap x → Stands c x
stands_cap c x e = record { itself = λ h. omega arith; more = λ h. omega arith }

pub cap_stands : (c : Capped) (x : ℕ) → Stands c x → c.number ≡ cap c.cap x
cap_stands c x s =
    by_bool (leb x c.cap)
    (λ e. let h = leb-true x c.cap e in omega (arith, s.itself h))
    (λ e. let h = leb-false x c.cap e in omega (arith, s.more h))

pub starts_stands : (k : ℕ) (c : Capped) → Starts k c → Stands c 0
starts_stands k c s = stands_cap c 0 (omega (arith, s.number_is))

-- one more neighbour: m is 1; and a sum, where what is added stands for y under the same cap
pub takes_stands : (c d : Capped) (x m : ℕ) → Stands c x → Takes c m d → Stands d (x + m)
takes_stands c d x m s t = stands_cap d (x + m) (omega (arith, cap_stands c x s, t.cap_is, t.number_is))

pub plus_stands : (c o d : Capped) (x y : ℕ) → o.cap ≡ c.cap → Stands c x → Stands o y → Takes c o.number d → Stands d (x + y)
plus_stands c o d x y e s u t =
    stands_cap d (x + y) (omega (arith, e, cap_stands c x s, cap_stands o y u, t.cap_is, t.number_is))

-- `exact` tells whether the count is at most the cap, and a threshold up to the cap plus one is told as by the count itself
pub exact_tells : (c : Capped) (x : ℕ) → Stands c x → leb c.number c.cap ≡ leb x c.cap
exact_tells c x s =
    bool_iff (leb c.number c.cap) (leb x c.cap)
    (λ e. le-leb x c.cap (omega (arith, cap_stands c x s, leb-true c.number c.cap e)))
    (λ e. le-leb c.number c.cap (omega (arith, cap_stands c x s, leb-true x c.cap e)))

pub threshold_tells : (c : Capped) (x t : ℕ) → t ≤ c.cap + 1 → Stands c x → leb t c.number ≡ leb t x
threshold_tells c x t h s = rw (cap_stands c x s) (leb_capped c.cap t x h)

-- ---- the items of each class: so many of the first x are of class k

module _ (of : List ℕ) where
  abbrev among : ℕ → ℕ → ℕ
  among k x = tally (λ y. eqb (get_or of y 0) k) x

  -- item x is of class k, or is not
  pub tally_own : (x k : ℕ) → get_or of x 0 ≡ k → among k (x + 1) ≡ among k x + 1
  unfolding sum
  tally_own x k e = rw (add-one x, eq-eqb (get_or of x 0) k e)

  pub tally_other : (x k : ℕ) → (get_or of x 0 ≡ k → ⊥) → among k (x + 1) ≡ among k x
  unfolding sum
  tally_other x k e = rw (add-one x, ne_eqb (get_or of x 0) k e) (omega arith)

  -- nothing is counted yet
  pub none_counted : (ν : ℕ) (c : Capped) → Starts ν c → ByClass (replicate 1024 c) of 0 ν
  unfolding sum
  none_counted ν c s =
      let at : (k : ℕ) → k < 1024 → count_at (replicate 1024 c) k ≡ c = λ k h. get_or-replicate {A = Capped} 1024 k c _ h in
      record {
        cap_is = λ k h. ap (λ (d : Capped). d.cap) (at k h) ∙ s.cap_is;
        stands = λ k h. subst (λ (d : Capped). Stands d 0) (sym (at k h)) (starts_stands ν c s);
      }

  -- item x counted: d for what stood at its class
  module _ (r : List Capped) (x ν : ℕ) (d : Capped) (long : length r ≡ 1024) (below : get_or of x 0 < 1024) (b : ByClass r of x ν)
      (takes : Takes (count_at r (get_or of x 0)) 1 d) where
    next : List Capped
    next = set r (get_or of x 0) d

    here : count_at next (get_or of x 0) ≡ d
    unfolding next
    here = get_or-set_same r (get_or of x 0) d _ (omega arith)

    elsewhere : (k : ℕ) → (k ≡ get_or of x 0 → ⊥) → count_at next k ≡ count_at r k
    unfolding next
    elsewhere k e = get_or-set_other r (get_or of x 0) k d _ e

    pub one_counted : ByClass (set r (get_or of x 0) d) of (x + 1) ν
    unfolding next
    one_counted =
        record {
          cap_is = λ k h.
              by_eq k (get_or of x 0)
              (λ e. ap (λ (i : ℕ). (count_at next i).cap) e ∙ ap (λ (f : Capped). f.cap) here ∙ takes.cap_is ∙ b.cap_is (get_or of x 0) below)
              (λ e. ap (λ (f : Capped). f.cap) (elsewhere k e) ∙ b.cap_is k h);
          stands = λ k h.
              by_eq k (get_or of x 0)
              (λ e.
              subst (λ (i : ℕ). Stands (count_at next i) (among i (x + 1))) (sym e)
              (subst (λ (f : Capped). Stands f (among (get_or of x 0) (x + 1))) (sym here)
              (rw (tally_own x (get_or of x 0) refl) (takes_stands _ d _ 1 (b.stands (get_or of x 0) below) takes))))
              (λ e. subst (λ (f : Capped). Stands f (among k (x + 1))) (sym (elsewhere k e)) (rw (tally_other x k (λ z. e (sym z))) (b.stands k h)));
        }

-- what the file has: the count of each class, capped
pub class_number : (r : List Capped) (of : List ℕ) (n ν k : ℕ) → k < 1024 → ByClass r of n ν → (count_at r k).number ≡ cap ν (tally (λ x. eqb (get_or of x 0) k) n)
class_number r of n ν k h b = omega (arith, cap_stands (count_at r k) _ (b.stands k h), b.cap_is k h)
