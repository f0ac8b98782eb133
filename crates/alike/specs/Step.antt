-- What a level step takes and gives, besides the class lists. Leans on meaning's Level, and on surround for the rows of items.
use Rattle.std.specs.Prelude.{ℕ, ◌*◌, ◌≤◌, ◌<◌, pred, ◌≡◌, List}
use Rattle.meaning.specs.Register.{Register}
use Rattle.meaning.specs.Level.{class_list, class_count}
use Rattle.surround.specs.Surroundings.{RowsStand}

-- so much room: for all rows, for where they start, and for the keys
pub record Room (n m rows starts keys other : ℕ) : Type 0 where
  pub for_rows : 2 * m ≤ rows
  pub for_starts : n < starts
  pub for_keys : (2 * m ≤ keys) × (n ≤ keys)
  pub for_other : (2 * m ≤ other) × (n ≤ other)

-- lower and upper are the class lists of level i − 1 and of level i; groups and classes are the class counts of the two; and the rows
-- stand that were compared to make the second of the first
pub record Reached (R : Register) (µ n i : ℕ) (lower upper : List ℕ) (groups classes : ℕ) (starts rows : List ℕ) : Type 0 where
  pub lower_is : lower ≡ class_list R µ (pred i)
  pub upper_is : upper ≡ class_list R µ i
  pub groups_are : groups ≡ class_count (class_list R µ (pred i))
  pub classes_are : classes ≡ class_count (class_list R µ i)
  pub rows_stand : RowsStand R µ (class_list R µ (pred i)) n starts rows
