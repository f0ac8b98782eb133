-- The links of one item, one way, found from the last to the first by the place behind each; and such places kept in a list for every
-- item. Leans on meaning's Register.
use Rattle.std.specs.Prelude.{ℕ, ◌+◌, ◌-◌, ◌≤◌, ◌<◌, ◌≡◌, false, List, eqb, length, get_or}
use Rattle.meaning.specs.Register.{Register, items, link_of, near}
use Rattle.meaning.specs.declared.Direction.{Direction}
use Rattle.meaning.specs.declared.Direction.TheVariants.{Outgoing, Incoming}

-- the links of item x, that way, below place j end at place p: no link from p up to j is x's, and the one before p is x's, unless p is 0
pub record Last (R : Register) (d : Direction) (x j p : ℕ) : Type 0 where
  pub low : p ≤ j
  pub gap : (k : ℕ) → p ≤ k → k < j → eqb (near d (link_of R k)) x ≡ false
  pub own : 1 ≤ p → near d (link_of R (p - 1)) ≡ x

-- for each item the place behind its last outgoing link; or, at any other length, nothing is said
pub record Outs (R : Register) (outs : List ℕ) : Type 0 where
  pub are : (length outs ≡ 1024) → (x : ℕ) → x < items R → Last R Outgoing x (length R.links) (get_or outs x 0)

-- for each item the place behind its last incoming link, and from 1024 on for each link the place behind the link before it that has
-- the same target; or, at any other length, nothing is said
pub record Ins (R : Register) (ins : List ℕ) : Type 0 where
  pub heads : (length ins ≡ 3072) → (x : ℕ) → x < items R → Last R Incoming x (length R.links) (get_or ins x 0)
  pub nexts : (length ins ≡ 3072) → (k : ℕ) → k < length R.links → Last R Incoming (link_of R k).target k (get_or ins (1024 + k) 0)

-- no link below place j has a later source than x
abbrev pub UpTo : Register → ℕ → ℕ → Type 0
UpTo R x j = (k : ℕ) → k < j → (link_of R k).source ≤ x

-- links below place `low` have no later source than x, and those from place `high` on have
pub record Parts (R : Register) (x low high : ℕ) : Type 0 where
  pub less : UpTo R x low
  pub more : (k : ℕ) → high ≤ k → k < length R.links → x < (link_of R k).source
