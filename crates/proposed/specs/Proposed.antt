-- What a proposed summary has once it is judged. Leans on meaning's SummaryFile.
use Rattle.std.specs.Prelude.{ℕ, ◌≤◌, ◌<◌, ◌≡◌, true, List, length}
use Rattle.meaning.specs.Summary.{class_of, class_at}
use Rattle.meaning.specs.WellFormed.{well_formed}
use Rattle.meaning.specs.SummaryFile.{summary_in, exact}

-- a well-formed summary with n items in its map, and the limits that follow
pub record Proposed (s : List ℕ) (n : ℕ) : Type 0 where
  pub exact_is : exact s ≡ true
  pub well : well_formed (summary_in s) ≡ true
  pub items_same : length (summary_in s).map ≡ n
  pub few_items : n ≤ 1024
  pub few_classes : length (summary_in s).classes ≤ 1024
  pub few_rows : length (summary_in s).rows ≤ 4096
  pub few_links : length (summary_in s).links ≤ 2048
  pub few_groups : (summary_in s).groups ≤ 1024
  pub near_low : (summary_in s).near_cap ≤ 7
  pub class_low : (summary_in s).class_cap ≤ 15
  pub class_in : (x : ℕ) → x < n → class_at (summary_in s) x < length (summary_in s).classes
  pub group_in : (k : ℕ) → k < length (summary_in s).classes → (class_of (summary_in s) k).group < (summary_in s).groups
