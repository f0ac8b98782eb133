-- The rows of a summary's classes, and the numbers that are copied out of the words of an item's rows: "Row, eight bytes: class,
-- direction times 16 plus label (out 0, in 1), group, neighbour count capped at µ." Leans on rows' words.
use Rattle.std.specs.Prelude.{ℕ, ◌+◌, ◌/◌, ◌%◌, ◌≤◌, ◌<◌, Bool, List, [], ◌∷◌, length, get_or}
use Rattle.meaning.specs.Count.{join}
use Rattle.meaning.specs.Register.{Register}
use Rattle.meaning.specs.Summary.{Row}
use Rattle.meaning.specs.Level.{class_count, lowest_item, Numbering}
use Rattle.meaning.specs.Condense.{rows_at, by}
use Rattle.surround.specs.Surroundings.{item_start, RowsStand}

-- a word of rows taken apart, with the class k in front; and so many words from a place on
unfoldable pub word_numbers : ℕ → ℕ → List ℕ
word_numbers k w = k ∷ w / 16384 ∷ w / 16 % 1024 ∷ w % 16 ∷ []

unfoldable pub copied : List ℕ → ℕ → ℕ → ℕ → List ℕ
copied rows k from m = join (λ j. word_numbers k (get_or rows (from + j) 0)) m

-- m words from a place on stand there, each of a way below 32, a group below 1,024 and a count below 16
pub record Words (rows : List ℕ) (from m : ℕ) : Type 0 where
  pub there : from + m ≤ length rows
  pub small : (j : ℕ) → j < m → get_or rows (from + j) 0 < 524288

-- the rows of all classes, each class's those of its lowest item: meaning's `summary_by` has them so
abbrev pub class_rows : Register → ℕ → List ℕ → List ℕ → List Row
class_rows R µ gs cs = join (λ k. rows_at µ R (by gs) (class_count gs) k (lowest_item cs k)) (class_count cs)

-- the classes of items, numbered in order of lowest item; and the items' rows against the groups gs, as a level step leaves them. That
-- the lists are long enough goes with what they begin with
pub record Given (R : Register) (µ : ℕ) (gs classes starts rows : List ℕ) : Type 0 where
  pub cap_low : µ ≤ 7
  pub few_groups : class_count gs ≤ 1024
  pub few : length classes ≤ 1024
  pub few_rows : item_start R µ gs (length classes) ≤ 4096
  pub rows_stand : RowsStand R µ gs (length classes) starts rows
  pub like : ℕ → ℕ → Bool
  pub numbered : Numbering like (length classes) classes
