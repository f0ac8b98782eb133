-- What a loop that writes a row has written, and one turn of the loop that counts neighbours, over lists. Leans on theory for counts by
-- place.
use mathlib.Core.Path.{◌≡◌, sym, ap, ◌∙◌}
use mathlib.Core.Bool.{Bool, false, cond}
use mathlib.Core.List.{List}
use Prim.Native.Nat.{ℕ, ◌+◌, ◌*◌, ◌≤◌, ◌<◌}
use native.Mathlib.Omega.{arith}
use native.Mathlib.Numerals.{add-one}
use lib.ListN.{length, get_or, replicate, length-replicate, get_or-replicate}
use Rattle.theory.proofs.NumberLaws.{tally_most}
use Rattle.theory.proofs.NeighbourLaws.{neighbours_places}
use Rattle.meaning.specs.Count.{sum, tally}
use Rattle.meaning.specs.Register.{Register, link_of, leads}
use Rattle.meaning.specs.declared.Direction.{Direction}
use Rattle.meaning.specs.RegisterFile.{register_in}
use Rattle.table.specs.Row.{row, Counts, Below, Adds}

-- u is t with the first x items of row j written
pub record Part (t u : List Bool) (j : ℕ) (p : ℕ → Bool) (x : ℕ) : Type 0 where
  pub so_far : (y : ℕ) → y < x → row u j y ≡ p y
  pub kept : (i : ℕ) → 1024 * (j + 1) ≤ i → get_or u i false ≡ get_or t i false
  pub long : length u ≡ length t

-- ---- counting

-- the counts after k links
pub record Tallied (R : Register) (d : Direction) (l : ℕ) (p : ℕ → Bool) (c : List ℕ) (k : ℕ) : Type 0 where
  pub long : length c ≡ 1024
  pub so_far : (x : ℕ) → x < 1024 → get_or c x 0 ≡ tally (λ i. leads d l p x (link_of R i)) k

module _ (R : Register) (d : Direction) (l : ℕ) (p : ℕ → Bool) where
  pub tallied_none : Tallied R d l p (replicate 1024 0) 0
  unfolding sum
  tallied_none = record { long = length-replicate {A = ℕ} 1024 0; so_far = λ x h. get_or-replicate {A = ℕ} 1024 x 0 0 h }

  pub tallied_next : (c u : List ℕ) (k : ℕ) → length u ≡ length c → Tallied R d l p c k → Adds c u (λ x. leads d l p x (link_of R k)) → Tallied R d l p u (k + 1)
  unfolding sum
  tallied_next c u k e t a =
      record { long = e ∙ t.long; so_far = λ x v. a.added x v ∙ rw (add-one k) (ap (λ (m : ℕ). m + cond (leads d l p x (link_of R k)) 1 0) (t.so_far x v)) }

  pub tallied_small : (c : List ℕ) (k : ℕ) → k < 2048 → Tallied R d l p c k → Below c 2048
  tallied_small c k h t = record { long = t.long; small = λ x u. omega (arith, t.so_far x u, tally_most (λ i. leads d l p x (link_of R i)) k) }

pub tallied_all : (b c : List ℕ) (n m : ℕ) (d : Direction) (l : ℕ) (p : ℕ → Bool) → n ≤ 1024 → m ≡ length (register_in b).links →
    Tallied (register_in b) d l p c m → Counts c b n d l p
tallied_all b c n m d l p h e t =
    record { long = t.long; counted = λ x u. t.so_far x (omega arith) ∙ rw e (sym (neighbours_places (register_in b) d l p x)) }
