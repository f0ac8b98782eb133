-- Rows of a table of truth values, and what writing one leaves of the others. Leans on lists alone, and on the register for counts.
use Rattle.std.specs.Prelude.{ℕ, ◌+◌, ◌*◌, ◌≤◌, ◌<◌, ◌≡◌, Bool, true, false, cond, ◌&&◌, ◌||◌, List, length, get_or}
use Rattle.meaning.specs.Register.{neighbours}
use Rattle.meaning.specs.declared.Direction.{Direction}
use Rattle.meaning.specs.RegisterFile.{register_in}

-- what row j says at item x
abbrev pub row : List Bool → ℕ → ℕ → Bool
row t j x = get_or t (1024 * j + x) false

-- the table has row j, and a row has room for n items
pub record Room (t : List Bool) (n j : ℕ) : Type 0 where
  pub few : n ≤ 1024
  pub below : j < 64
  pub long : length t ≡ 65536

-- u is t with row j saying p of n items, and the rows behind j as they were
pub record Writes (t u : List Bool) (n j : ℕ) (p : ℕ → Bool) : Type 0 where
  pub says : (x : ℕ) → x < n → row u j x ≡ p x
  pub kept : (i : ℕ) → 1024 * (j + 1) ≤ i → get_or u i false ≡ get_or t i false

-- "and" of two truths, or "or" where any of the two is enough
abbrev pub paired : Bool → Bool → Bool → Bool
paired true a b = a || b
paired false a b = a && b

-- c has 1,024 counts and counts, for each of n items, its neighbours that way and by that label that pass
pub record Counts (c : List ℕ) (b : List ℕ) (n : ℕ) (d : Direction) (l : ℕ) (p : ℕ → Bool) : Type 0 where
  pub long : length c ≡ 1024
  pub counted : (x : ℕ) → x < n → get_or c x 0 ≡ neighbours (register_in b) d l p x

-- 1,024 counts, every one below k
pub record Below (c : List ℕ) (k : ℕ) : Type 0 where
  pub long : length c ≡ 1024
  pub small : (x : ℕ) → x < 1024 → get_or c x 0 < k

-- u is c with one more counted at each item that passes
pub record Adds (c u : List ℕ) (p : ℕ → Bool) : Type 0 where
  pub added : (x : ℕ) → x < 1024 → get_or u x 0 ≡ get_or c x 0 + cond (p x) 1 0
