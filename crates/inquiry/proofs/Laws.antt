-- Why a row is right once the rows behind it are: one law for any row that is written, and what each kind of entry asks of it.
-- Leans on question's laws of the tree that stands at an entry, and on table's rows.
use mathlib.Core.Path.{◌≡◌, sym, ap, ap₂, ◌∙◌}
use mathlib.Core.Bool.{Bool, true, false, not, ◌&&◌, ◌||◌}
use mathlib.Core.List.{List}
use mathlib.Core.Option.{Option, none, some}
use Prim.Native.Nat.{ℕ, ◌+◌, ◌*◌, ◌/◌, ◌≤◌, ◌<◌}
use native.Mathlib.Omega.{arith}
use lib.Dec.{leb}
use lib.IntN.{ℤ}
use lib.ListN.{length}
use Rattle.std.proofs.Common.{Ok, Err}
use Rattle.meaning.specs.Register.{Register, items, marks_of, Fine, neighbours}
use Rattle.meaning.specs.declared.Direction.{Direction}
use Rattle.meaning.specs.declared.Kind.TheVariants.{True, Literal, Not, AtLeast}
use Rattle.meaning.specs.Question.{Question, shows, holds}
use Rattle.theory.proofs.CountLaws.{by_eq}
use Rattle.theory.proofs.NeighbourLaws.{neighbours_same}
use Rattle.theory.proofs.ShapeLaws.{accepted_fine}
use Rattle.promise.proofs.Promise.{fault_accepted}
use Rattle.meaning.specs.RegisterFile.{register_in, fault}
use Rattle.meaning.specs.QuestionFile.{question}
use Rattle.meaning.specs.declared.Refusal.{Refusal}
use Rattle.entry.specs.Entries.{entry_at}
use Rattle.entry.proofs.Laws.{clash, within_question}
use Rattle.question.specs.declared.Tree.{Tree}
use Rattle.question.specs.Read.{Parsed, Spans}
use Rattle.question.proofs.Laws.{forward, ends, parsed_true, parsed_literal, parsed_not, parsed_and, parsed_or, parsed_least, parsed_one, parsed_question, question_length, everywhere, every_entry}
use Rattle.table.specs.Row.{row, Writes, paired}
use Rattle.descent.specs.Tells.{Tells}
use Rattle.inquiry.specs.Known.{Whole, Known, pair_kind, asked}

module _ (R : Register) (q : List ℕ) (n j : ℕ) (t u : List Bool) (known : Known R q n t (j + 1)) where
  -- a row that is written, and those behind it that stay
  known_row : (p : ℕ → Bool) → Writes t u n j p → ((v : Question) (e : ℕ) → Parsed q j v e → (x : ℕ) → x < n → p x ≡ holds R v x) → Known R q n u j
  known_row p w right =
      record {
        knows = λ i h v e parsed x below. by_eq i j
            (λ s. let at : Parsed q j v e = rw s at parsed in rw s (w.says x below ∙ right v e at x below))
            (λ s. w.kept (1024 * i + x) (omega arith) ∙ known.knows i (omega arith) v e parsed x below);
      }

  pub known_true : Writes t u n j (λ x. true) → entry_at q j ≡ some True → Known R q n u j
  unfolding holds
  known_true w at = known_row _ w (λ v e parsed x h. rw (parsed_true parsed at).0)

  pub known_literal : (z : ℤ) → Writes t u n j (λ x. shows (marks_of R x) z) → entry_at q j ≡ some (Literal z) → Known R q n u j
  unfolding holds
  known_literal z w at = known_row _ w (λ v e parsed x h. rw (parsed_literal parsed at).0)

  pub known_not : Writes t u n j (λ x. not (row t (j + 1) x)) → entry_at q j ≡ some Not → Known R q n u j
  unfolding holds
  known_not w at =
      known_row _ w
      (λ v e parsed x h.
      let s = parsed_not parsed at in
      rw s.1 (ap not (known.knows (j + 1) (omega arith) s.0 e s.2 x h)))

  -- the first operand stands at entry j + 1 up to k, so the second stands at k
  pub known_pair : (any : Bool) (k : ℕ) (o : Question) → Parsed q (j + 1) o k → Writes t u n j (λ x. paired any (row t (j + 1) x) (row t k x)) →
      entry_at q j ≡ some (pair_kind any) → Known R q n u j
  unfolding holds
  known_pair true k o first w at =
      known_row _ w
      (λ v e parsed x h.
      let s = parsed_or parsed at in
      let one = parsed_one s.4 first in
      let second : Parsed q k s.1 e = rw one.1 at s.5 in
      rw s.3 (ap₂ (λ (a b : Bool). a || b) (known.knows (j + 1) (omega arith) s.0 s.2 s.4 x h) (known.knows k (omega (arith, forward first)) s.1 e second x h)))
  known_pair false k o first w at =
      known_row _ w
      (λ v e parsed x h.
      let s = parsed_and parsed at in
      let one = parsed_one s.4 first in
      let second : Parsed q k s.1 e = rw one.1 at s.5 in
      rw s.3 (ap₂ (λ (a b : Bool). a && b) (known.knows (j + 1) (omega arith) s.0 s.2 s.4 x h) (known.knows k (omega (arith, forward first)) s.1 e second x h)))

  pub known_least : Fine R → n ≡ items R → (d : Direction) (l m : ℕ) → Writes t u n j (λ x. leb m (neighbours R d l (row t (j + 1)) x)) →
      entry_at q j ≡ some (AtLeast d l m) → Known R q n u j
  unfolding holds
  known_least fine e d l m w at =
      known_row _ w
      (λ v f parsed x h.
      let s = parsed_least parsed at in
      rw s.1
      (ap (leb m) (neighbours_same R fine d l x (row t (j + 1)) (holds R s.0) (λ y k. known.knows (j + 1) (omega arith) s.0 f s.2 y (omega arith)))))

-- nothing stands past the last entry, and row 0 is the question's own
pub known_none : (R : Register) (q : List ℕ) (n : ℕ) (t : List Bool) → Known R q n t (length q / 4)
known_none R q n t = record { knows = λ i h u e parsed x k. absurd (omega (arith, forward parsed, ends parsed)) }

pub known_all : (R : Register) (q : List ℕ) (n : ℕ) (t : List Bool) (x : ℕ) → Whole q → x < n → Known R q n t 0 → row t 0 x ≡ asked R (question q) x
unfolding asked
known_all R q n t x w h k = k.knows 0 (omega arith) w.tree (length q / 4) (parsed_question q w.tree w.reads) x h ∙ sym (rw w.reads)

-- what is said of the tree at entry 0 is said of the question
pub told_so : (R : Register) (q : List ℕ) (x : ℕ) → Whole q → (b : Bool) → Tells q 0 (λ t. holds R t x) (Ok b) → b ≡ asked R (question q) x
unfolding asked
told_so R q x w b says = says w.tree (length q / 4) (parsed_question q w.tree w.reads) ∙ sym (ap (λ (o : Option Question). asked R o x) w.reads)

-- of a well-formed question: at most 64 entries; each reads; the operands of an entry of two stand, and end within it
module _ (q : List ℕ) (w : Whole q) where
  pub few_entries : length q / 4 ≤ 64
  few_entries = (question_length q w.tree w.reads).2

  pub tree_at : (i : ℕ) → i < length q / 4 → (v : Question) × (e : ℕ) × Parsed q i v e
  tree_at i h = let s = everywhere q w.tree w.reads i h in (s.0, s.1, s.2)

  pub operands_at : (any : Bool) (j : ℕ) → j < length q / 4 → entry_at q j ≡ some (pair_kind any) →
      (p : Question) × (k : ℕ) × Parsed q (j + 1) p k × (j + 1 < k) × (k < length q / 4)
  operands_at true j h at =
      let s = tree_at j h in
      let o = parsed_or s.2 at in
      (o.0, o.2, o.4, forward o.4, omega (arith, forward o.5, ends o.5))
  operands_at false j h at =
      let s = tree_at j h in
      let o = parsed_and s.2 at in
      (o.0, o.2, o.4, forward o.4, omega (arith, forward o.5, ends o.5))

  -- no entry of it is malformed
  pub entry_stands : (j : ℕ) → j < length q / 4 → none ≡ entry_at q j → ⊥
  entry_stands j h e = let k = every_entry q w.tree w.reads j h in clash (e ∙ k.1)

  -- the operand of an entry of one stands right behind it
  pub not_below : (j : ℕ) → entry_at q j ≡ some Not → j + 1 < 64
  not_below j at =
      let s = tree_at j (within_question q j Not at) in
      let o = parsed_not s.2 at in
      omega (arith, forward o.2, ends o.2, few_entries)

  pub least_below : (j : ℕ) (d : Direction) (l m : ℕ) → entry_at q j ≡ some (AtLeast d l m) → j + 1 < 64
  least_below j d l m at =
      let s = tree_at j (within_question q j (AtLeast d l m) at) in
      let o = parsed_least s.2 at in
      omega (arith, forward o.2, ends o.2, few_entries)

  -- an entry of two: its first operand stands, so it is spanned and not refused, and the span ends before the last entry
  module _ (any : Bool) (j : ℕ) (at : entry_at q j ≡ some (pair_kind any)) where
    pub first_stands : (r : Refusal) → Spans q (j + 1) (Err r) → ⊥
    unfolding Spans
    first_stands r spans = let o = operands_at any j (within_question q j (pair_kind any) at) at in spans.1 o.0 o.1 o.2

    pub first_spanned : (s : Tree) → Spans q (j + 1) (Ok s) → (p : Question) × Parsed q (j + 1) p s.next × (j + 1 < s.next) × (s.next < 64)
    unfolding Spans
    first_spanned s spans =
        let o = operands_at any j (within_question q j (pair_kind any) at) at in
        let one = parsed_one o.2 spans.1 in
        (spans.0, spans.1, forward spans.1, omega (arith, o.4, one.1, few_entries))

-- the links of an accepted register are in range
pub register_fine : (b : List ℕ) → fault b ≡ 0 → Fine (register_in b)
register_fine b e = accepted_fine (register_in b) (fault_accepted b e)
