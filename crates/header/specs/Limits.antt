-- What holds of a summary once its header is judged. Leans on meaning's SummaryFile.
use Rattle.std.specs.Prelude.{ℕ, ◌≤◌, ◌≡◌, true, List, length}
use Rattle.meaning.specs.SummaryFile.{summary_in, exact}

-- a file whose offsets and length are exact and whose sizes and caps are within their limits
pub record Sized (s : List ℕ) : Type 0 where
  pub exact_is : exact s ≡ true
  pub few_classes : length (summary_in s).classes ≤ 1024
  pub few_items : length (summary_in s).map ≤ 1024
  pub few_rows : length (summary_in s).rows ≤ 4096
  pub few_links : length (summary_in s).links ≤ 2048
  pub near_low : (summary_in s).near_cap ≤ 7
  pub class_low : (summary_in s).class_cap ≤ 15
