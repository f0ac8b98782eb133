-- The three tests of the range, one after another.
use mathlib.Core.Path.{◌≡◌, sym}
use mathlib.Core.Bool.{true, false}
use Prim.Native.Nat.{ℕ}
use Rattle.meaning.specs.WellFormed.{within, in_range}

module _ (i µ ν : ℕ) where
  pub no_level : within 1 i 4 ≡ false → false ≡ in_range i µ ν
  unfolding in_range
  no_level e = sym (rw e)

  pub no_near : within 1 i 4 ≡ true → within 1 µ 7 ≡ false → false ≡ in_range i µ ν
  unfolding in_range
  no_near e f = sym (rw (e, f))

  pub by_class : within 1 i 4 ≡ true → within 1 µ 7 ≡ true → within 1 ν 15 ≡ in_range i µ ν
  unfolding in_range
  by_class e f = sym (rw (e, f))
