-- Where the words of items start.
use Rattle.std.specs.Prelude.{ℕ, ◌+◌, ◌≤◌, ◌<◌, List, get_or, length}

-- where the words of n items start, and where the last end, among so many
pub record Started (starts : List ℕ) (n words : ℕ) : Type 0 where
  pub there : n < length starts
  pub rise : (x : ℕ) → x < n → get_or starts x 0 ≤ get_or starts (x + 1) 0
  pub within : (x : ℕ) → x < n → get_or starts (x + 1) 0 ≤ words
