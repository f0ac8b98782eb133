-- A stretch of a list written place by place.
use Rattle.std.specs.Prelude.{ℕ, ◌+◌, ◌<◌, ◌≡◌, List, get_or, length}

-- u is t with f 0, f 1, .. f (m - 1) from a place on, and what stands before as it was
pub record Writes (t u : List ℕ) (from m : ℕ) (f : ℕ → ℕ) : Type 0 where
  pub says : (k : ℕ) → k < m → get_or u (from + k) 0 ≡ f k
  pub kept : (i : ℕ) → i < from → get_or u i 0 ≡ get_or t i 0
  pub long : length u ≡ length t
