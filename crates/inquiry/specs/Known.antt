-- What is known of the table while a question is worked through, and what the answer says. Leans on question for the tree that stands
-- at an entry, on table for rows, on meaning for where a question holds.
use Rattle.std.specs.Prelude.{Result, Ok, Err, ℕ, ◌≤◌, ◌<◌, ◌≡◌, Bool, true, false, List}
use Rattle.std.proofs.Math.Option.{Option, none, some}
use Rattle.meaning.specs.Register.{Register}
use Rattle.meaning.specs.Question.{Question, holds}
use Rattle.meaning.specs.declared.Kind.{Kind}
use Rattle.meaning.specs.declared.Kind.TheVariants.{And, Or}
use Rattle.meaning.specs.QuestionFile.{question}
use Rattle.meaning.specs.declared.Refusal.{Refusal}
use Rattle.question.specs.Read.{Parsed}
use Rattle.table.specs.Row.{row}

-- the bytes are a well-formed question
pub record Whole (q : List ℕ) : Type 0 where
  pub tree : Question
  pub reads : question q ≡ some tree

-- from row j on, each row says where the tree that stands at its entry holds
pub record Known (R : Register) (q : List ℕ) (n : ℕ) (t : List Bool) (j : ℕ) : Type 0 where
  pub knows : (i : ℕ) → j ≤ i → (u : Question) (e : ℕ) → Parsed q i u e → (x : ℕ) → x < n → row t i x ≡ holds R u x

-- nothing was refused, and the rows from j on are known
abbrev pub Fills : Result (Unit {0}) Refusal → Register → List ℕ → ℕ → List Bool → ℕ → Type 0
Fills (Ok u) R q n t j = Known R q n t j
Fills (Err r) R q n t j = ⊥

-- "and", or "or" where any of the two is enough
abbrev pub pair_kind : Bool → Kind
pair_kind true = Or
pair_kind false = And

-- where a question that was read holds
unfoldable pub asked : Register → Option Question → ℕ → Bool
asked R none x = false
asked R (some t) x = holds R t x
