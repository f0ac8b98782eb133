-- The keys of a summary's rows, as who judges a summary leaves them for who reads on. Leans on meaning's WellFormed.
use Rattle.std.specs.Prelude.{ℕ, ◌≡◌, Bool, true, List, length, take}
use Rattle.meaning.specs.Count.{tab}
use Rattle.meaning.specs.Summary.{Summary, row_of}
use Rattle.meaning.specs.WellFormed.{row_key}

unfoldable pub row_keys : Summary → List ℕ
row_keys S = tab (λ j. row_key (row_of S j)) (length S.rows)

-- where yes was said, keys begins with the keys of the rows
pub record Keyed (yes : Bool) (S : Summary) (keys : List ℕ) : Type 0 where
  pub kept : yes ≡ true → take (length S.rows) keys ≡ row_keys S
