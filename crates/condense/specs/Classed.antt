-- What the writer of a summary is handed. Leans on register's and surround's records.
use Rattle.std.specs.Prelude.{◌≡◌, List, ℕ, ◌≤◌, length}
use Rattle.meaning.specs.Register.{items}
use Rattle.meaning.specs.Level.{alike, class_count, Numbering}
use Rattle.meaning.specs.RegisterFile.{register_in}
use Rattle.register.specs.Told.{OfRegister}
use Rattle.surround.specs.Surroundings.{RowsStand}

-- an accepted register with g groups and c classes of its n items, the classes numbered in order of lowest item, and with the rows of
-- its items against the groups
pub record Classed (b : List ℕ) (n m µ g c : ℕ) (groups map starts words : List ℕ) : Type 0 where
  pub register : OfRegister b n m
  pub cap_low : µ ≤ 7
  pub groups_are : g ≡ class_count groups
  pub classes_are : c ≡ class_count map
  pub groups_long : length groups ≡ n
  pub few_groups : class_count groups ≤ n
  pub level : ℕ
  pub numbered : Numbering (alike (register_in b) µ level) (items (register_in b)) map
  pub rows_stand : RowsStand (register_in b) µ groups n starts words
  pub few_words : length words ≤ 4096
