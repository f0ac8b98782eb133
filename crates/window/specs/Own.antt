-- Which rows are a class's own in a direction and label. Leans on meaning's Summary.
use Rattle.std.specs.Prelude.{ℕ, ◌≤◌, ◌<◌, ◌≡◌, true, false, length}
use Rattle.meaning.specs.declared.Direction.{Direction}
use Rattle.meaning.specs.Summary.{Summary, row_of, row_for}

-- "the class's rows in that direction and label": those from row low up to row high, and no others
pub record Own (S : Summary) (k : ℕ) (d : Direction) (l low high : ℕ) : Type 0 where
  pub rises : low ≤ high
  pub ends : high ≤ length S.rows
  pub own : (i : ℕ) → low ≤ i → i < high → row_for k d l (row_of S i) ≡ true
  pub before : (i : ℕ) → i < low → row_for k d l (row_of S i) ≡ false
  pub behind : (i : ℕ) → high ≤ i → i < length S.rows → row_for k d l (row_of S i) ≡ false
