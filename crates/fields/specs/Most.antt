-- The greatest of some numbers.
use Rattle.std.specs.Prelude.{ℕ, zero, suc, max}

-- the greatest of f 0, f 1, .. f (n - 1), or 0
unfoldable pub most : (ℕ → ℕ) → ℕ → ℕ
most f zero = 0
most f (suc n) = max (most f n) (f n)
