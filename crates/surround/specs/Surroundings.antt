-- The keys of links, and the rows of items as words: what is around each item, by direction, label and class. Leans on meaning's Level and
-- Condense.
use Rattle.std.specs.Prelude.{ℕ, ◌+◌, ◌*◌, ◌≤◌, ◌<◌, ◌≡◌, List, [], ◌∷◌, ◌++◌, get_or, length, take}
use Rattle.meaning.specs.Count.{tab, join}
use Rattle.meaning.specs.Register.{Link, Register, near, far, link_of}
use Rattle.meaning.specs.declared.Direction.{Direction}
use Rattle.meaning.specs.declared.Direction.TheVariants.{Outgoing, Incoming}
use Rattle.meaning.specs.WellFormed.{way}
use Rattle.meaning.specs.Summary.{Row}
use Rattle.meaning.specs.Level.{class_count}
use Rattle.meaning.specs.Condense.{rows_at, by}

-- cs begins with the class numbers of n items
pub record OfClasses (cs : List ℕ) (n : ℕ) : Type 0 where
  pub long : n ≤ length cs
  pub small : (x : ℕ) → x < n → get_or cs x 0 < 1024

-- a link as it is seen that way, in one number: the item, the way with its label, and the class to which it leads
unfoldable pub key_of : Direction → List ℕ → Link → ℕ
key_of d cs a = near d a * 32768 + way d a.label * 1024 + get_or cs (far d a) 0

-- the keys of m links, first as seen from their sources, then as seen from their targets
abbrev pub all_keys : Register → List ℕ → ℕ → List ℕ
all_keys R cs m = tab (λ k. key_of Outgoing cs (link_of R k)) m ++ tab (λ k. key_of Incoming cs (link_of R k)) m

-- a row, but for its class, in one word
unfoldable pub word_of : Row → ℕ
word_of r = (way r.direction r.label * 1024 + r.group) * 16 + r.count

unfoldable pub words : List Row → List ℕ
words [] = []
words (r ∷ rest) = word_of r ∷ words rest

-- the rows of item x against the class list cs; and how many the items before x have
unfoldable pub item_rows : Register → ℕ → List ℕ → ℕ → List ℕ
item_rows R µ cs x = words (rows_at µ R (by cs) (class_count cs) 0 x)

unfoldable pub item_start : Register → ℕ → List ℕ → ℕ → ℕ
item_start R µ cs x = length (join (item_rows R µ cs) x)

-- the rows of n items stand one item after the other, each item's from its start on; the last start is where all end
pub record RowsStand (R : Register) (µ : ℕ) (cs : List ℕ) (n : ℕ) (starts rows : List ℕ) : Type 0 where
  pub starts_are : take (n + 1) starts ≡ tab (item_start R µ cs) (n + 1)
  pub rows_are : take (item_start R µ cs n) rows ≡ join (item_rows R µ cs) n
