-- What was found of an entry at a place, and what is kept of it: 0 for not known, 1 for no, 2 for yes, each entry with 1,024 places of its own.
-- Leans on question's trees.
use Rattle.std.specs.Prelude.{Option, Some, None, Result, Ok, Err, eqb, ℕ, ◌+◌, ◌*◌, ◌≤◌, ◌<◌, ◌≡◌, Bool, true, false, not, cond, List, ◌⊎◌, ltb, length, get_or}
use Rattle.meaning.specs.declared.Kind.{Kind}
use Rattle.meaning.specs.declared.Kind.TheVariants.{True, Literal, Not, And, Or, AtLeast}
use Rattle.meaning.specs.Question.{Question}
use Rattle.meaning.specs.declared.Refusal.{Refusal}
use Rattle.question.specs.Read.{Parsed}

-- what is said of the tree at entry i is so, where a tree's truth is given
abbrev pub Says : List ℕ → ℕ → (Question → Bool) → Bool → Type 0
Says q i so b = (t : Question) (k : ℕ) → Parsed q i t k → b ≡ so t

-- of the two operands of an entry one is enough
abbrev pub any : Kind → Bool
any True = false
any (Literal k) = false
any Not = false
any And = false
any Or = true
any (AtLeast d l n) = false

-- "and, or": whether the first operand decides
abbrev pub decides : Kind → Bool → Bool
decides k b = cond (any k) b (not b)

-- where the first operand may be refused, and then decides too
abbrev pub settles : Kind → Result Bool Refusal → Bool
settles k (Ok b) = decides k b
settles k (Err r) = true

abbrev pub tell : Bool → ℕ
tell true = 2
tell false = 1

-- what is known by what is kept
abbrev pub recalled : ℕ → Option Bool
recalled n = cond (eqb n 0) None (Some (eqb n 2))

-- where it is kept what the tree at entry i says at place x
abbrev pub slot : ℕ → ℕ → ℕ
slot i x = cond (ltb i 64) (1024 * i + x) 65536

-- what is known is so, where a tree's truth at a place is given
pub record Remembers (q : List ℕ) (truth : Question → ℕ → Bool) (known : List ℕ) : Type 0 where
  pub short : length known ≤ 65536
  pub so : (i x : ℕ) → i < 64 → x < 1024 → (t : Question) (k : ℕ) → Parsed q i t k →
      (get_or known (1024 * i + x) 0 ≡ 0) ⊎ (get_or known (1024 * i + x) 0 ≡ tell (truth t x))
