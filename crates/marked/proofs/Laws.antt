-- The walk over the sorted items, and equal marks: numbers by marks are the class list of level 0. Leans on Keyed.
use mathlib.Core.Path.{◌≡◌, refl, sym, ap, ◌∙◌}
use mathlib.Core.Bool.{true}
use mathlib.Core.List.{List}
use mathlib.Core.Logic.{⊎_elim, ◌⊎◌}
use Prim.Native.Nat.{ℕ, ◌+◌, ◌-◌, ◌/◌, ◌≤◌, ◌<◌}
use native.Mathlib.Omega.{arith}
use borrow.Author.Tests.{eq-eqb, eqb-true, eqb-false, ltb-true, ltb-false}
use lib.Dec.{eqb, ltb}
use lib.ListN.{length, get_or, set}
use lib.Seq.{get_or-set_same, get_or-set_other}
use Rattle.meaning.specs.Count.{tab, seek}
use Rattle.meaning.specs.Register.{Register, items, marks_of}
use Rattle.meaning.specs.Level.{first, number, alike, class_list, Equivalence}
use Rattle.theory.proofs.CountLaws.{by_bool, by_eq, eqb_refl, length_tab, tab_same}
use Rattle.theory.proofs.NumberLaws.{number_cong}
use Rattle.order.specs.Sorted.{sorted}
use Rattle.order.proofs.Front.{seek_found, seek_over}
use Rattle.marked.specs.Lowest.{pack, Listed, item, same_marks}
use Rattle.marked.proofs.Keyed.{found, listed}

-- ---- the walk over the sorted items: r is where the run of p's key starts

pub record Run (s : List ℕ) (r p : ℕ) : Type 0 where
  pub start : r ≤ p
  pub less : (q : ℕ) → q < r → get_or s q 0 / 1024 < get_or s r 0 / 1024
  pub same : (q : ℕ) → r ≤ q → q < p → get_or s q 0 / 1024 ≡ get_or s r 0 / 1024

-- one place more, where a new run starts or not
pub run_next : (s : List ℕ) (n r p t : ℕ) → Run s r p → p < n → ((q : ℕ) → q ≤ p → get_or s q 0 ≤ get_or s p 0)
    → ((get_or s p 0 / 1024 ≡ get_or s r 0 / 1024 → ⊥) × (t ≡ p)) ⊎ ((get_or s p 0 / 1024 ≡ get_or s r 0 / 1024) × (t ≡ r))
    → Run s t (p + 1) × (t ≤ p) × (get_or s t 0 / 1024 ≡ get_or s p 0 / 1024)
run_next s n r p t u h up c =
    ⊎_elim
    (λ w.
    let lt : get_or s r 0 / 1024 < get_or s p 0 / 1024 = omega (arith, w.0, up r u.start) in
    rw w.1 (
      record {
        start = omega arith;
        less = λ q k. by_bool (ltb q r) (λ y. omega (arith, u.less q (ltb-true q r y))) (λ y. omega (arith, u.same q (ltb-false q r y) k));
        same = λ q k m. let e : q ≡ p = omega arith in ap (λ (z : ℕ). get_or s z 0 / 1024) e;
      },
      omega arith,
      refl,
    ))
    (λ w.
    rw w.1 (
      record {
        start = omega (arith, u.start);
        less = u.less;
        same = λ q k m.
            by_bool (ltb q p) (λ y. u.same q k (ltb-true q p y))
            (λ y. let e : q ≡ p = omega (arith, ltb-false q p y) in ap (λ (z : ℕ). get_or s z 0 / 1024) e ∙ w.0);
      },
      u.start,
      sym w.0,
    ))
    c

-- the answer stored at the item's place
pub store_next : (f : ℕ → ℕ) (s l : List ℕ) (p v : ℕ) → ((q : ℕ) → q < p → get_or l (item s q) 0 ≡ f (item s q)) → item s p < length l → v ≡ f (item s p)
    → (q : ℕ) → q < p + 1 → get_or (set l (item s p) v) (item s q) 0 ≡ f (item s q)
store_next f s l p v h k e q g =
    by_bool (eqb (item s q) (item s p))
    (λ t. let i = eqb-true (item s q) (item s p) t in rw i (get_or-set_same l (item s p) v 0 k ∙ e))
    (λ t.
    let i = eqb-false (item s q) (item s p) t in
    let lt : q < p = by_bool (ltb q p) (λ y. ltb-true q p y) (λ y. let z : q ≡ p = omega (arith, ltb-false q p y) in absurd (i (ap (item s) z))) in
    get_or-set_other l (item s p) (item s q) v 0 i ∙ h q lt)

-- every item is met
pub all_met : (key f : ℕ → ℕ) (n : ℕ) (s l : List ℕ) → n ≤ 1024 → Listed key n s → ((q : ℕ) → q < n → get_or l (item s q) 0 ≡ f (item s q)) → (x : ℕ) →
    x < n → get_or l x 0 ≡ f x
all_met key f n s l few li h x k =
    let z = li.there x k in
    let e : item s z.0 ≡ x = omega (arith, z.2) in
    rw e at (h z.0 z.1)

pub item_small : (key : ℕ → ℕ) (n : ℕ) (s : List ℕ) → n ≤ 1024 → Listed key n s → (q : ℕ) → q < n → item s q < n
item_small key n s few li q h = let z = li.here q h in omega (arith, z.1, z.2)

-- the packed items, sorted
pub keys_listed : (key : ℕ → ℕ) (n : ℕ) (a s : List ℕ) → a ≡ tab (pack key) n → s ≡ sorted a (length a) → Listed key n s
keys_listed key n a s e f =
    let h : length a ≡ n = ap length e ∙ length_tab (pack key) n in
    listed key n s (f ∙ rw (h, e))

-- ---- equal marks

module _ (ms : List ℕ) where
  pub marks_equivalence : Equivalence (same_marks ms)
  unfolding same_marks
  marks_equivalence = record {
    self = λ x. eqb_refl (get_or ms x 0);
    back = λ x y e. eq-eqb (get_or ms y 0) (get_or ms x 0) (sym (eqb-true (get_or ms x 0) (get_or ms y 0) e));
    on = λ x y z e f. eq-eqb (get_or ms x 0) (get_or ms z 0) (eqb-true (get_or ms x 0) (get_or ms y 0) e ∙ eqb-true (get_or ms y 0) (get_or ms z 0) f);
  }

  marks_keyed : (x y : ℕ) → same_marks ms x y ≡ true → get_or ms x 0 ≡ get_or ms y 0
  unfolding same_marks
  marks_keyed x y e = eqb-true (get_or ms x 0) (get_or ms y 0) e

  first_at : (s : List ℕ) (t p : ℕ) → t ≤ p → get_or ms (item s t) 0 ≡ get_or ms (item s p) 0 → seek (λ q. same_marks ms (item s q) (item s p)) t (p - t) ≡ t
  unfolding same_marks
  first_at s t p h e =
      by_eq t p
      (λ q. seek_over (λ q. eqb (get_or ms (item s q) 0) (get_or ms (item s p) 0)) t p (omega arith))
      (λ q. seek_found (λ q. eqb (get_or ms (item s q) 0) (get_or ms (item s p) 0)) t p (omega arith) (eq-eqb _ _ e))

  -- the first of a run has the marks of the run, and is the lowest item that has them
  pub led_marks : (n : ℕ) (s : List ℕ) (t p : ℕ) → n ≤ 1024 → Listed (λ x. get_or ms x 0) n s → p < n → Run s t (p + 1) → t ≤ p → get_or s t 0 / 1024 ≡ get_or s p 0 / 1024
      → item s t ≡ first (same_marks ms) (item s p)
  led_marks n s t p few li h u k e =
      let a = li.here t (omega arith) in
      let b = li.here p h in
      let ta : item s t ≡ a.0 = omega (arith, a.1, a.2) in
      let pb : item s p ≡ b.0 = omega (arith, b.1, b.2) in
      let same : get_or ms (item s t) 0 ≡ get_or ms (item s p) 0 = rw (ta, pb) (omega (arith, a.1, a.2, b.1, b.2)) in
      ap (item s) (sym (first_at s t p k same))
      ∙ found (same_marks ms) marks_equivalence (λ x. get_or ms x 0) marks_keyed n few s li t p k h (λ q m. omega (arith, u.less q m, e))

-- ---- level 0

module _ (R : Register) (µ : ℕ) where
  same_marks_law : (ms : List ℕ) (x y : ℕ) → get_or ms x 0 ≡ marks_of R x → get_or ms y 0 ≡ marks_of R y → same_marks ms x y ≡ alike R µ 0 x y
  unfolding same_marks alike
  same_marks_law ms x y e f = rw (e, f)

  -- numbers by marks are those of level 0
  level_zero : (ms : List ℕ) → ((x : ℕ) → x < items R → get_or ms x 0 ≡ marks_of R x) → tab (number (same_marks ms)) (items R) ≡ class_list R µ 0
  unfolding class_list
  level_zero ms e =
      tab_same (number (same_marks ms)) (number (alike R µ 0)) (items R)
      (number_cong (same_marks ms) (alike R µ 0) (items R) (λ x y u v. same_marks_law ms x y (e x u) (e y v)))

  -- as the code gives them, which counts n items
  pub marked : (n : ℕ) → n ≡ items R → (ms : List ℕ) → ((x : ℕ) → x < n → get_or ms x 0 ≡ marks_of R x) → tab (number (same_marks ms)) n ≡ class_list R µ 0
  marked n n_is ms e = ap (tab (number (same_marks ms))) n_is ∙ level_zero ms (λ x h. e x (omega arith))
