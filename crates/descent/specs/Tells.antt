-- What an item's links are asked, and what is said of a question that is asked of a register from an item downwards. Leans on memo for what
-- is said of a tree and on meaning for where a question holds.
use Rattle.std.specs.Prelude.{Result, Ok, Err, ℕ, ◌≡◌, Bool, ◌&&◌, List, leb, eqb, get_or}
use Rattle.meaning.specs.Register.{Register, link_of, far, neighbours}
use Rattle.meaning.specs.declared.Direction.{Direction}
use Rattle.meaning.specs.Question.{Question, holds}
use Rattle.meaning.specs.RegisterFile.{register_in}
use Rattle.memo.specs.Kept.{Says}
use Rattle.descent.specs.declared.Asked.{Asked}
use Rattle.descent.specs.declared.Unsaid.{Unsaid}

-- the register that is asked
abbrev pub register_of : Asked → Register
register_of a = register_in a.links.register.bytes.now

-- nothing but zeros
abbrev pub Cleared : List ℕ → Type 0
Cleared s = (i : ℕ) → get_or s i 0 ≡ 0

-- "at least t .. neighbours by label .. satisfy the operand", at item x
abbrev pub reaching : Register → Direction → ℕ → ℕ → ℕ → Question → Bool
reaching R d l n x t = leb n (neighbours R d l (holds R t) x)

-- link k has that label and leads to a neighbour that satisfies the operand
abbrev pub leading : Register → Direction → ℕ → ℕ → Question → Bool
leading R d l k t = eqb (link_of R k).label l && holds R t (far d (link_of R k))

-- what is said of the tree at entry i is so, if it is said
abbrev pub Tells : List ℕ → ℕ → (Question → Bool) → Result Bool Unsaid → Type 0
Tells q i so (Ok b) = Says q i so b
Tells q i so (Err u) = Unit {0}
