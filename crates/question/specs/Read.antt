-- What the code's values say in document 01's terms: the tree that stands at an entry, the verdict on a whole question. Leans on
-- entry for what is read of four bytes and on meaning's QuestionFile for the question that the bytes are.
use Rattle.std.specs.Prelude.{Result, Ok, Err, ◌≡◌, List, ℕ, ◌+◌, max, ℤ}
use Rattle.std.proofs.Math.Option.{Option, none, some}
use Rattle.meaning.specs.Question.{Question, always, literal, negation, both, either, at_least, depth, threshold}
use Rattle.meaning.specs.declared.Direction.{Direction}
use Rattle.meaning.specs.declared.Kind.TheVariants.{True, Literal, Not, And, Or, AtLeast}
use Rattle.meaning.specs.QuestionFile.{question}
use Rattle.meaning.specs.Refusals.{number_of}
use Rattle.meaning.specs.declared.Refusal.{Refusal}
use Rattle.meaning.specs.declared.Refusal.TheVariants.{Question as Malformation}
use Rattle.entry.specs.Entries.{entry_at}
use Rattle.question.specs.declared.Tree.{Tree}
use Rattle.question.specs.declared.Needs.{Needs}

-- "root first, each operator followed by its operands": the tree that stands at entries i up to j
pub data Parsed (q : List ℕ) : ℕ → Question → ℕ → Type 0 where
  p_true : {i : ℕ} → entry_at q i ≡ some True → Parsed q i always (i + 1)
  p_literal : {i : ℕ} {z : ℤ} → entry_at q i ≡ some (Literal z) → Parsed q i (literal z) (i + 1)
  p_not : {i k : ℕ} {t : Question} → entry_at q i ≡ some Not → Parsed q (i + 1) t k → Parsed q i (negation t) k
  p_and : {i j k : ℕ} {t u : Question} → entry_at q i ≡ some And → Parsed q (i + 1) t j → Parsed q j u k → Parsed q i (both t u) k
  p_or : {i j k : ℕ} {t u : Question} → entry_at q i ≡ some Or → Parsed q (i + 1) t j → Parsed q j u k → Parsed q i (either t u) k
  p_least : {i k : ℕ} {t : Question} {d : Direction} {l n : ℕ} → entry_at q i ≡ some (AtLeast d l n) → Parsed q (i + 1) t k → Parsed q i (at_least d l n t) k

-- no tree stands at entry i
abbrev pub Treeless : List ℕ → ℕ → Type 0
Treeless q i = (u : Question) (n : ℕ) → Parsed q i u n → ⊥

-- what is told of the entries from i on: the depth and the greatest threshold of the tree that stands there, and the entry after
-- it; or, with number 5, that no tree stands there
unfoldable pub Spans : List ℕ → ℕ → Result Tree Refusal → Type 0
Spans q i (Ok s) = (u : Question) × Parsed q i u s.next × (depth u ≡ s.depth) × (threshold u ≡ s.threshold)
Spans q i (Err r) = (r ≡ Malformation) × Treeless q i

-- the same of two operands together: "the others have the greatest of their operands' depths"
abbrev pub joined : Tree → Tree → Tree
joined s v = record { depth = max s.depth v.depth; threshold = max s.threshold v.threshold; next = v.next }

-- "The depth of an at-least entry is one more than its operand's depth"
abbrev pub raised : ℕ → Tree → Tree
raised t s = record { depth = s.depth + 1; threshold = max t s.threshold; next = s.next }

-- the verdict on a question: its depth and its greatest threshold, or 5, "question malformed"
pub data Verdict : Type 0 where
  accepted : ℕ → ℕ → Verdict
  refused : ℕ → Verdict

unfoldable pub verdict_by : Option Question → Verdict
verdict_by none = refused 5
verdict_by (some t) = accepted (depth t) (threshold t)

unfoldable pub verdict : List ℕ → Verdict
verdict q = verdict_by (question q)

-- a judgement in those terms
abbrev pub told : Result Needs Refusal → Verdict
told (Ok n) = accepted n.depth n.threshold
told (Err r) = refused (number_of r)
