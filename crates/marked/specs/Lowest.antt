-- Items numbered in order of lowest item, from a list of each item's lowest like; items listed by a key; equal marks. Leans on Count.
use Rattle.std.specs.Prelude.{ℕ, ◌+◌, ◌*◌, ◌%◌, ◌≤◌, ◌<◌, Bool, List, ◌≡◌, get_or, eqb}
use Rattle.meaning.specs.Count.{tally}

-- x is its own lowest like
unfoldable pub own : List ℕ → ℕ → Bool
own f x = eqb (get_or f x 0) x

-- how many items below the lowest like of x are their own
unfoldable pub number_of : List ℕ → ℕ → ℕ
number_of f x = tally (own f) (get_or f x 0)

-- the first n of f are lowest items: none is above its place, and each is its own
pub record Lows (f : List ℕ) (n : ℕ) : Type 0 where
  pub below : (x : ℕ) → x < n → get_or f x 0 ≤ x
  pub again : (x : ℕ) → x < n → get_or f (get_or f x 0) 0 ≡ get_or f x 0

-- an item below 1,024 with its key, in one number: the order is that of keys, then items
abbrev pub pack : (ℕ → ℕ) → ℕ → ℕ
pack key y = key y * 1024 + y

-- s begins with the n items, each with its key, ascending
pub record Listed (key : ℕ → ℕ) (n : ℕ) (s : List ℕ) : Type 0 where
  pub here : (p : ℕ) → p < n → (y : ℕ) × (y < n) × (get_or s p 0 ≡ pack key y)
  pub there : (y : ℕ) → y < n → (p : ℕ) × (p < n) × (get_or s p 0 ≡ pack key y)
  pub up : (p q : ℕ) → p ≤ q → q < n → get_or s p 0 ≤ get_or s q 0

-- the item at a place
abbrev pub item : List ℕ → ℕ → ℕ
item s p = get_or s p 0 % 1024

-- x and y have equal marks
unfoldable pub same_marks : List ℕ → ℕ → ℕ → Bool
same_marks ms x y = eqb (get_or ms x 0) (get_or ms y 0)
