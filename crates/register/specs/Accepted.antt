-- Bytes that are an accepted register, and the counts of its items and links. Leans on meaning's RegisterFile.
use Rattle.std.specs.Prelude.{◌≡◌, List, ℕ, length}
use Rattle.meaning.specs.Register.{items}
use Rattle.meaning.specs.RegisterFile.{register_in, fault}

-- b is an accepted register of n items; of n items and m links
pub record OfItems (b : List ℕ) (n : ℕ) : Type 0 where
  pub fine : fault b ≡ 0
  pub items_are : n ≡ items (register_in b)

pub record OfRegister (b : List ℕ) (n m : ℕ) : Type 0 where
  pub fine : fault b ≡ 0
  pub items_are : n ≡ items (register_in b)
  pub links_are : m ≡ length (register_in b).links
