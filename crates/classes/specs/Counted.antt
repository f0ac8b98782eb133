-- Class records under way: four numbers a class, and what entering an item does to them. Leans on meaning's class_for for what they end as.
use Rattle.std.specs.Prelude.{ℕ, ◌+◌, ◌*◌, ◌/◌, ◌%◌, ◌≤◌, ◌<◌, ◌≡◌, List, length, get_or, take}
use Rattle.meaning.specs.Count.{tab}
use Rattle.meaning.specs.Register.{Register}
use Rattle.meaning.specs.Level.{class_count, lowest_item}
use Rattle.meaning.specs.Condense.{class_for}
use Rattle.meaning.specs.Bytes.{pack}
use Rattle.summary.specs.Numbers.{class_fields, class_numbers}

-- number j of class k's record
abbrev pub part : List ℕ → ℕ → ℕ → ℕ
part u k j = get_or u (4 * k + j) 0

-- the groups and the classes of n items: at most 1,024 classes, each of some item
pub record Sorted (n : ℕ) (groups classes : List ℕ) : Type 0 where
  pub groups_there : length groups ≡ n
  pub classes_there : length classes ≡ n
  pub few : class_count classes ≤ 1024
  pub used : (k : ℕ) → k < class_count classes → lowest_item classes k < n

-- v is u with an item of class k entered, of those marks and that group: the first of a class gives it its record, with how many items it has
pub record Enters (u v : List ℕ) (k marks group count : ℕ) : Type 0 where
  pub others : (k' j : ℕ) → j < 4 → (k' ≡ k → ⊥) → part v k' j ≡ part u k' j
  pub first : part u k 3 ≡ 0 → (part v k 0 ≡ marks / 65536) × (part v k 1 ≡ marks % 65536) × (part v k 2 ≡ group) × (part v k 3 ≡ count)
  pub later : 0 < part u k 3 → v ≡ u

-- u begins with the numbers of the class records, for the groups gs and the classes cs
pub record Numbered (u : List ℕ) (R : Register) (gs cs : List ℕ) (ν : ℕ) : Type 0 where
  pub long : length u ≡ 4096
  pub numbered : take (class_fields * class_count cs) u ≡ pack class_numbers (tab (class_for ν R gs cs) (class_count cs))
