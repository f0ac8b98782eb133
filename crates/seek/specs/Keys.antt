-- Where a key stands among ascending keys, where each class's keys start, and that two lists have the same members. Leans on Count.
use Rattle.std.specs.Prelude.{ℕ, ◌/◌, ◌≤◌, ◌<◌, min, ◌≡◌, Bool, false, ◌&&◌, List, eqb, length, get_or}
use Rattle.meaning.specs.Count.{any, each}

-- the two lists have the same members
unfoldable pub same_members : List ℕ → List ℕ → Bool
same_members ks ns = each (λ a. any (eqb a) ks) ns && each (λ b. any (eqb b) ns) ks

-- where a key stands or would stand among ascending keys: all before are less, none from there on is
pub record Stands (ks : List ℕ) (key at : ℕ) : Type 0 where
  pub within : at ≤ length ks
  pub before : (i : ℕ) → i < at → get_or ks i 0 < key
  pub behind : (i : ℕ) → at ≤ i → i < length ks → key ≤ get_or ks i 0

-- a search among ascending keys: those before low are less than the key, and none from high on is
pub record Parted (ks : List ℕ) (key low high : ℕ) : Type 0 where
  pub less : (i : ℕ) → i < low → get_or ks i 0 < key
  pub rest : (i : ℕ) → high ≤ i → i < length ks → key ≤ get_or ks i 0

-- the class of a key, which has direction, label and group below it; there are 1,024 classes, and what is beyond counts to the last
unfoldable pub key_class : ℕ → ℕ
key_class key = min (key / 4294967296) 1023

-- where a class's keys start: all keys before are of classes below it, and none from there on is
pub record Splits (ks : List ℕ) (class at : ℕ) : Type 0 where
  pub within : at ≤ length ks
  pub before : (i : ℕ) → i < at → key_class (get_or ks i 0) < class
  pub behind : (i : ℕ) → at ≤ i → i < length ks → class ≤ key_class (get_or ks i 0)

-- the starts of all classes up to c, and all keys are of classes below c
pub record Laid (starts ks : List ℕ) (c : ℕ) : Type 0 where
  pub room : c < length starts
  pub start : (k : ℕ) → k ≤ c → Splits ks k (get_or starts k 0)
  pub last : get_or starts c 0 ≡ length ks

-- among the keys, exactly those that are among the numbers ns are marked
pub record Marks (marked : List Bool) (keys ns : List ℕ) : Type 0 where
  pub mark : (i : ℕ) → i < length keys → get_or marked i false ≡ any (eqb (get_or keys i 0)) ns
