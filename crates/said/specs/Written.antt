-- What a call that fills a lent buffer gives: "A success returns the length written", "bytes past that length stay". Leans on meaning's
-- Answers and Refusals.
use Rattle.std.specs.Prelude.{◌≡◌, List, ℕ, ◌≤◌, Result, Ok, Err}
use Rattle.meaning.specs.Refusals.{number_of}
use Rattle.meaning.specs.declared.Refusal.{Refusal}
use Rattle.meaning.specs.Answers.{Answer, Returned, number, word, size, returned, left}

abbrev pub told : Result ℕ Refusal → Returned
told (Ok long) = size long
told (Err r) = number (number_of r)

-- w is what is handed back of the answer a, and a buffer that held d now holds d'
pub record Gives (w : Result ℕ Refusal) (d d' : List ℕ) (a : Answer) : Type 0 where
  pub says : told w ≡ returned a
  pub leaves : d' ≡ left a d

-- a length, where it is one, that a signed number of 32 bits holds with ease: "at most 55,320"
unfoldable pub Short : Returned → Type 0
Short (number k) = Unit {0}
Short (word t) = Unit {0}
Short (size n) = n ≤ 55320
