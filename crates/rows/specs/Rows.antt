-- The rows of items, said of keys: of each key that occurs, how often, capped. A key is an item times 32,768 and the rest, which is
-- (direction times 16 plus label) times 1,024 and a group. Leans on Count and Cap.
use Rattle.std.specs.Prelude.{ℕ, ◌+◌, ◌*◌, ◌%◌, ◌≤◌, ◌<◌, ◌≡◌, Bool, cond, List, [], ◌∷◌, get_or, length, eqb}
use Rattle.meaning.specs.Count.{tally, join}
use Rattle.meaning.specs.Cap.{cap}

-- the key at place q is v
unfoldable pub hits : List ℕ → ℕ → ℕ → Bool
hits s v q = eqb (get_or s q 0) v

-- how often v stands among the first k keys
unfoldable pub often : List ℕ → ℕ → ℕ → ℕ
often s k v = tally (hits s v) k

-- a row in one word: the rest of the key, and its count capped at µ
abbrev pub row_word : ℕ → ℕ → ℕ → ℕ
row_word µ v c = v % 32768 * 16 + cap µ c

-- the row of a key. "Zero counts have no row."
unfoldable pub row_of : ℕ → List ℕ → ℕ → ℕ → List ℕ
row_of µ s k v = cond (eqb (often s k v) 0) [] (row_word µ v (often s k v) ∷ [])

-- the rows of item x: those of its keys, ascending
unfoldable pub rows_of : ℕ → List ℕ → ℕ → ℕ → List ℕ
rows_of µ s k x = join (λ e. row_of µ s k (x * 32768 + e)) 32768

-- how many rows the items before x have
unfoldable pub start_of : ℕ → List ℕ → ℕ → ℕ → ℕ
start_of µ s k x = length (join (rows_of µ s k) x)

-- the keys from place p to place q are equal, and the next is another
pub record Alone (s : List ℕ) (k p q : ℕ) : Type 0 where
  pub some : p < q
  pub within : q ≤ k
  pub equal : (i : ℕ) → p ≤ i → i < q → get_or s i 0 ≡ get_or s p 0
  pub other : q < k → get_or s q 0 ≡ get_or s p 0 → ⊥
