-- A list read back place by place, what writes from a place on come to, and tests of numbers, one after another. Leans on theory's
-- CountLaws and on lib.Seq.
use mathlib.Core.Path.{◌≡◌, refl, sym, ap, ◌∙◌}
use mathlib.Core.Bool.{Bool, true, false}
use mathlib.Core.List.{List, [], ◌∷◌, ◌++◌}
use Prim.Native.Nat.{ℕ, zero, suc, ◌+◌, ◌*◌, ◌≤◌, ◌<◌}
use native.Mathlib.Omega.{arith}
use borrow.Author.Tests.{eqb-true, eq-eqb, ne_eqb}
use lib.Dec.{eqb}
use lib.ListN.{length, get_or, take}
use lib.Seq.{take-suc, ext_get_or}
use Rattle.meaning.specs.Count.{tab, all, any, each}
use Rattle.theory.proofs.CountLaws.{bool_iff, length_tab, get_d_tab, tab_same, all_at, all_yes, any_at, each_every, each_yes, every_at, every_get_d}
use Rattle.theory.proofs.ShapeLaws.{any_place}
use Rattle.lists.specs.Writes.{Writes}

-- ---- a list, place by place

pub front : (s : List ℕ) (n : ℕ) → n ≤ length s → take n s ≡ tab (λ i. get_or s i 0) n
unfolding tab
front s zero h = refl
front s (suc n) h = take-suc s n 0 (omega arith) ∙ ap (λ (l : List ℕ). l ++ (get_or s n 0 ∷ [])) (front s n (omega arith))

pub places : {A : Type 0} (d : A) (s : List A) → tab (λ j. get_or s j d) (length s) ≡ s
places d s =
    let l = length_tab (λ j. get_or s j d) (length s) in
    ext_get_or d (tab (λ j. get_or s j d) (length s)) s l (λ i h. get_d_tab (λ j. get_or s j d) d (length s) i (omega (arith, l)))

pub tab_more : {A : Type 0} (f : ℕ → A) (m n : ℕ) → tab f (m + n) ≡ tab f m ++ tab (λ i. f (m + i)) n
unfolding tab
tab_more f m zero = let z : m + 0 ≡ m = omega arith in rw z (sym (mathlib.Core.List.append-nil (tab f m)))
tab_more f m (suc n) =
    let z : m + suc n ≡ suc (m + n) = omega arith in
    rw z (ap (λ (l : List _). l ++ (f (m + n) ∷ [])) (tab_more f m n) ∙ mathlib.Core.List.append_assoc (tab f m) (tab (λ i. f (m + i)) n) (f (m + n) ∷ []))

-- ---- tests of a list, place by place; numbers in a list that is made place by place

pub each_places : {A : Type 0} (p : A → Bool) (d : A) (s : List A) → each p s ≡ all (λ i. p (get_or s i d)) (length s)
each_places p d s =
    bool_iff _ _
    (λ e. all_yes _ (length s) (λ i u. at p d s i u e))
    (λ e. from p d s (λ i u. all_at _ (length s) i u e))
  where
    at : {A : Type 0} (p : A → Bool) (d : A) (s : List A) (i : ℕ) → i < length s → each p s ≡ true → p (get_or s i d) ≡ true
    at p d s i u e = every_at (λ a. p a ≡ true) d s (each_every p s e (λ a h. h)) i u

    from : {A : Type 0} (p : A → Bool) (d : A) (s : List A) → ((i : ℕ) → i < length s → p (get_or s i d) ≡ true) → each p s ≡ true
    from p d s h = each_yes p s (every_get_d (λ a. p a ≡ true) d s h) (λ a e. e)

pub in_tab : (f : ℕ → ℕ) (n v i : ℕ) → i < n → f i ≡ v → any (eqb v) (tab f n) ≡ true
in_tab f n v i h e =
    any_at (eqb v) 0 (tab f n) i (rw (length_tab f n) h) (rw (get_d_tab f 0 n i h) (eq-eqb v (f i) (sym e)))

pub of_tab : (f : ℕ → ℕ) (n v : ℕ) → any (eqb v) (tab f n) ≡ true → (i : ℕ) × (i < n) × (f i ≡ v)
of_tab f n v e =
    let r = any_place (eqb v) 0 (tab f n) e in
    let h : r.0 < n = rw (length_tab f n) at r.1 in
    (r.0, h, sym (get_d_tab f 0 n r.0 h) ∙ sym (eqb-true v (get_or (tab f n) r.0 0) r.2))

-- ---- writing

-- two stretches, one behind the other
pub two_written : (t u v : List ℕ) (m : ℕ) (f g : ℕ → ℕ) → m + m ≤ length t → Writes t u 0 m f → Writes u v m m g → take (2 * m) v ≡ tab f m ++ tab g m
two_written t u v m f g h w x =
    let z : 2 * m ≡ m + m = omega arith in
    rw z
    (front v (m + m) (omega (arith, w.long, x.long))
    ∙ tab_more (λ i. get_or v i 0) m m
    ∙ ap (λ (l : List ℕ). l ++ tab (λ i. get_or v (m + i) 0) m)
    (tab_same (λ i. get_or v i 0) f m (λ i h. let q : i ≡ 0 + i = omega arith in x.kept i h ∙ ap (λ (j : ℕ). get_or u j 0) q ∙ w.says i h))
    ∙ ap (λ (l : List ℕ). tab f m ++ l) (tab_same (λ i. get_or v (m + i) 0) g m (λ i u. x.says i u)))

-- ---- a test of numbers, one after another

pub all_same : (p q : ℕ → Bool) (n : ℕ) → ((i : ℕ) → i < n → p i ≡ q i) → all p n ≡ all q n
all_same p q n h =
    bool_iff (all p n) (all q n)
    (λ e. all_yes q n (λ i u. sym (h i u) ∙ all_at p n i u e))
    (λ e. all_yes p n (λ i u. h i u ∙ all_at q n i u e))

-- two numbers read and compared: a is x, and b is y
pub told_yes : (a b x y : ℕ) → a ≡ x → b ≡ y → a ≡ b → eqb x y ≡ true
told_yes a b x y e f g = eq-eqb x y (sym e ∙ g ∙ f)

pub told_no : (a b x y : ℕ) → a ≡ x → b ≡ y → (a ≡ b → ⊥) → eqb x y ≡ false
told_no a b x y e f g = ne_eqb x y (λ h. g (e ∙ h ∙ sym f))
