-- Laws of signatures and of their hash. Leans on marked for the walk over sorted items.
use mathlib.Core.Path.{◌≡◌, refl, sym, ◌∙◌}
use mathlib.Core.Bool.{true, false, and-false}
use mathlib.Core.List.{List}
use Prim.Native.Nat.{ℕ, zero, suc, ◌+◌, ◌-◌, ◌/◌, ◌≤◌, ◌<◌}
use native.Mathlib.Omega.{arith}
use native.Mathlib.Numerals.{add-one}
use borrow.Author.Tests.{eq-eqb, ne_eqb, eqb-true}
use lib.Dec.{eqb}
use lib.ListN.{length, get_or, take, drop, length-drop}
use lib.Seq.{length-take-le, get_or-take, get_or-drop}
use Rattle.meaning.specs.Count.{all, seek}
use Rattle.meaning.specs.Level.{first, Equivalence}
use Rattle.theory.proofs.CountLaws.{and_inv, eqb_refl, all_yes, all_no, all_at}
use Rattle.marked.specs.Lowest.{Listed, item}
use Rattle.marked.proofs.Keyed.{found}
use Rattle.marked.proofs.Laws.{Run}
use Rattle.signature.specs.Signature.{size, word, alike_sig, mix, hashed, hash_sig}

module _ (g o r : List ℕ) where
  -- ---- what alike is

  pub sig_parts : (x y : ℕ) → alike_sig g o r x y ≡ true → (get_or g x 0 ≡ get_or g y 0) × (size o x ≡ size o y) × ((j : ℕ) → j < size o x → word o r x j ≡ word o r y j)
  unfolding alike_sig
  sig_parts x y h =
      let a = and_inv (eqb (get_or g x 0) (get_or g y 0)) _ h in
      let b = and_inv (eqb (size o x) (size o y)) _ a.1 in (
        eqb-true (get_or g x 0) (get_or g y 0) a.0,
        eqb-true (size o x) (size o y) b.0,
        λ j k. eqb-true (word o r x j) (word o r y j) (all_at (λ j. eqb (word o r x j) (word o r y j)) (size o x) j k b.1),
      )

  pub sig_yes : (x y : ℕ) → get_or g x 0 ≡ get_or g y 0 → size o x ≡ size o y → all (λ j. eqb (word o r x j) (word o r y j)) (size o x) ≡ true →
      alike_sig g o r x y ≡ true
  unfolding alike_sig
  sig_yes x y a b c = rw (eq-eqb (get_or g x 0) (get_or g y 0) a, eq-eqb (size o x) (size o y) b, c)

  pub sig_no1 : (x y : ℕ) → (get_or g x 0 ≡ get_or g y 0 → ⊥) → alike_sig g o r x y ≡ false
  unfolding alike_sig
  sig_no1 x y a = rw (ne_eqb (get_or g x 0) (get_or g y 0) a)

  pub sig_no2 : (x y : ℕ) → (size o x ≡ size o y → ⊥) → alike_sig g o r x y ≡ false
  unfolding alike_sig
  sig_no2 x y a = rw (ne_eqb (size o x) (size o y) a, and-false)

  pub sig_no3 : (x y j : ℕ) → j < size o x → (word o r x j ≡ word o r y j → ⊥) → alike_sig g o r x y ≡ false
  unfolding alike_sig
  sig_no3 x y j h a =
      let e = all_no (λ j. eqb (word o r x j) (word o r y j)) (size o x) j h (ne_eqb (word o r x j) (word o r y j) a) in
      rw (e, and-false, and-false)

  sig_self : (x : ℕ) → alike_sig g o r x x ≡ true
  sig_self x = sig_yes x x refl refl (all_yes _ (size o x) (λ j h. eqb_refl (word o r x j)))

  sig_back : (x y : ℕ) → alike_sig g o r x y ≡ true → alike_sig g o r y x ≡ true
  sig_back x y h =
      let a = sig_parts x y h in
      sig_yes y x (sym a.0) (sym a.1) (all_yes _ (size o y) (λ j k. eq-eqb _ _ (sym (a.2 j (omega (arith, a.1))))))

  sig_on : (x y z : ℕ) → alike_sig g o r x y ≡ true → alike_sig g o r y z ≡ true → alike_sig g o r x z ≡ true
  sig_on x y z h k =
      let a = sig_parts x y h in
      let b = sig_parts y z k in
      sig_yes x z (a.0 ∙ b.0) (a.1 ∙ b.1) (all_yes _ (size o x) (λ j i. eq-eqb _ _ (a.2 j i ∙ b.2 j (omega (arith, a.1)))))

  pub sig_equivalence : Equivalence (alike_sig g o r)
  sig_equivalence = record { self = sig_self; back = sig_back; on = sig_on }

  -- ---- the hash follows it

  hashed_same : (x y h n : ℕ) → ((j : ℕ) → j < n → word o r x j ≡ word o r y j) → hashed o r x h n ≡ hashed o r y h n
  unfolding hashed
  hashed_same x y h zero f = refl
  hashed_same x y h (suc n) f = rw (hashed_same x y h n (λ j k. f j (omega arith)), f n (omega arith))

  pub sig_keyed : (x y : ℕ) → alike_sig g o r x y ≡ true → hash_sig g o r x ≡ hash_sig g o r y
  unfolding hash_sig
  sig_keyed x y h =
      let e = sig_parts x y h in
      rw (e.0, ← e.1) (hashed_same x y (mix 0 (get_or g y 0)) (size o x) e.2)

-- the words of x, cut out
pub cut : (o r : List ℕ) (x : ℕ) → get_or o x 0 ≤ get_or o (x + 1) 0 → get_or o (x + 1) 0 ≤ length r →
    let ws = take (get_or o (x + 1) 0 - get_or o x 0) (drop (get_or o x 0) r) in (length ws ≡ size o x) × ((j : ℕ) → j < size o x → get_or ws j 0 ≡ word o r x j)
unfolding size word
cut o r x h g =
    let n = get_or o (x + 1) 0 - get_or o x 0 in (
      length-take-le n (drop (get_or o x 0) r) (simp length-drop (omega arith)),
      λ j k. get_or-take n (drop (get_or o x 0) r) j 0 k ∙ get_or-drop (get_or o x 0) r j 0,
    )

pub hashed_next : (o r : List ℕ) (x h n w : ℕ) → w ≡ word o r x n → mix (hashed o r x h n) w ≡ hashed o r x h (n + 1)
unfolding hashed
hashed_next o r x h n w e = rw (add-one n, e)

-- what the leader is
pub led : (g o r : List ℕ) (n : ℕ) (s : List ℕ) (t p : ℕ) → n ≤ 1024 → Listed (hash_sig g o r) n s → p < n → Run s t (p + 1) → t ≤ p →
    get_or s t 0 / 1024 ≡ get_or s p 0 / 1024
    → item s (seek (λ q. alike_sig g o r (item s q) (item s p)) t (p - t)) ≡ first (alike_sig g o r) (item s p)
led g o r n s t p few li h u k e =
    found (alike_sig g o r) (sig_equivalence g o r) (hash_sig g o r) (sig_keyed g o r) n few s li t p k h (λ q m. omega (arith, u.less q m, e))
