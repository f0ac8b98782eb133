-- The signature of an item: its group, and its words, which stand in a list from the item's start to that of the next item.
-- Leans on Count.
use Rattle.std.specs.Prelude.{ℕ, zero, suc, ◌+◌, ◌-◌, ◌*◌, ◌%◌, ◌≤◌, ◌<◌, Bool, ◌&&◌, List, get_or, length, eqb}
use Rattle.meaning.specs.Count.{all}

-- how many words x has, and word j of x
unfoldable pub size : List ℕ → ℕ → ℕ
size o x = get_or o (x + 1) 0 - get_or o x 0

unfoldable pub word : List ℕ → List ℕ → ℕ → ℕ → ℕ
word o r x j = get_or r (get_or o x 0 + j) 0

-- x and y have the same signature
unfoldable pub alike_sig : List ℕ → List ℕ → List ℕ → ℕ → ℕ → Bool
alike_sig g o r x y = eqb (get_or g x 0) (get_or g y 0) && (eqb (size o x) (size o y) && all (λ j. eqb (word o r x j) (word o r y j)) (size o x))

-- one word more in a hash
unfoldable pub mix : ℕ → ℕ → ℕ
mix h w = (h * 1000003 + w % 1099511627776) % 8388593

-- n words of x more
unfoldable pub hashed : List ℕ → List ℕ → ℕ → ℕ → ℕ → ℕ
hashed o r x h zero = h
hashed o r x h (suc n) = mix (hashed o r x h n) (word o r x n)

-- the hash of a signature, below 2^23. Nothing rests on its being a good one.
unfoldable pub hash_sig : List ℕ → List ℕ → List ℕ → ℕ → ℕ
hash_sig g o r x = hashed o r x (mix 0 (get_or g x 0)) (size o x)

-- n items laid out so
pub record Laid (g o r : List ℕ) (n : ℕ) : Type 0 where
  pub few : n ≤ 1024
  pub groups : n ≤ length g
  pub begin : n < length o
  pub rise : (x : ℕ) → x < n → get_or o x 0 ≤ get_or o (x + 1) 0
  pub fit : (x : ℕ) → x < n → get_or o (x + 1) 0 ≤ length r
