-- Lists end to end, as the rows of items stand: where each begins, and what stands there. Leans on Count's `join`.
use mathlib.Core.Path.{◌≡◌, refl, ap, ◌∙◌}
use mathlib.Core.List.{List, [], ◌++◌, append_assoc, append-nil}
use Prim.Native.Nat.{ℕ, zero, suc, ◌+◌, ◌≤◌, ◌<◌}
use native.Mathlib.Omega.{arith}
use native.Mathlib.Numerals.{add-one}
use lib.ListN.{length, get_or, length-append, get_or-append}
use lib.Seq.{get_or-append-add}
use Rattle.meaning.specs.Count.{join}
use Rattle.theory.proofs.CountLaws.{by_eq}

module _ {A : Type 0} (f : ℕ → List A) where
  pub join_next : (n : ℕ) → join f (suc n) ≡ join f n ++ f n
  unfolding join
  join_next n = refl

  -- all lists are those before number x, its own, and more
  pub join_around : (n x : ℕ) → x < n → (r : List A) × (join f n ≡ join f x ++ (f x ++ r))
  join_around zero x h = absurd (omega arith)
  join_around (suc n) x h =
      by_eq x n
      (λ e. ([], rw (e, append-nil) (join_next n)))
      (λ e.
      let i = join_around n x (omega arith) in
      (i.0 ++ f n, join_next n ∙ rw i.1 (simp append_assoc)))

  pub joined_next : (x : ℕ) → length (join f (x + 1)) ≡ length (join f x) + length (f x)
  joined_next x = rw (add-one x, join_next x) (length-append (join f x) (f x))

  pub joined_fits : (n x : ℕ) → x < n → length (join f (x + 1)) ≤ length (join f n)
  joined_fits n x h =
      let i = join_around n x h in
      omega (arith, joined_next x, ap length i.1, length-append (join f x) (f x ++ i.0), length-append (f x) i.0)

  pub joined_at : (d : A) (n x j : ℕ) (rest : List A) → x < n → j < length (f x) → get_or (join f n ++ rest) (length (join f x) + j) d ≡ get_or (f x) j d
  joined_at d n x j rest h k =
      let i = join_around n x h in
      let e : join f n ++ rest ≡ join f x ++ (f x ++ (i.0 ++ rest)) = rw i.1 (simp append_assoc) in
      ap (λ (l : List A). get_or l (length (join f x) + j) d) e
      ∙ get_or-append-add (join f x) (f x ++ (i.0 ++ rest)) j d
      ∙ get_or-append (f x) (i.0 ++ rest) d j k
