-- What each step of the recursion over prefix entries comes to, and what the verdict is by what the recursion tells of entry 0.
-- Leans on Laws.
use mathlib.Core.Path.{◌≡◌, refl, sym, ap, ap₂, subst, ◌∙◌}
use mathlib.Core.Logic.{◌⊎◌, inl, inr}
use mathlib.Core.List.{List}
use mathlib.Core.Option.{Option, none, some}
use Prim.Native.Nat.{ℕ, ◌+◌, ◌/◌, ◌%◌, ◌<◌, ◌≤◌}
use native.Mathlib.Omega.{arith}
use native.Mathlib.Numerals.{add-one}
use lib.IntN.{ℤ}
use lib.ListN.{length}
use Rattle.std.proofs.Common.{Result, Ok, Err}
use Rattle.meaning.specs.Question.{Question, always, literal, negation, both, either, at_least, depth, threshold}
use Rattle.meaning.specs.declared.Direction.{Direction}
use Rattle.meaning.specs.declared.Kind.{Kind}
use Rattle.meaning.specs.declared.Kind.TheVariants.{True, Literal, Not, And, Or, AtLeast}
use Rattle.meaning.specs.QuestionFile.{question}
use Rattle.meaning.specs.declared.Refusal.{Refusal}
use Rattle.meaning.specs.declared.Refusal.TheVariants.{Question as Malformation}
use Rattle.entry.specs.Entries.{entry_at}
use Rattle.entry.proofs.Laws.{clash}
use Rattle.question.specs.declared.Tree.{Tree}
use Rattle.question.specs.Read.{Parsed, Treeless, p_true, p_literal, p_not, p_and, p_or, p_least, Spans, joined, raised, accepted, refused, verdict_by, verdict}
use Rattle.question.proofs.Laws.{reads_first, forward, ends, shallow, under, parsed_one, parsed_question, question_length, question_parsed}

-- ---- kinds by their tags, as a pattern of two kinds tells them

abbrev pub Leaf : Kind → Type 0
Leaf k = (k ≡ True) ⊎ ((z : ℤ) × (k ≡ Literal z))

abbrev pub Two : Kind → Type 0
Two k = (k ≡ And) ⊎ (k ≡ Or)

-- ---- a step of the recursion, by the kind of the entry

module _ (q : List ℕ) (i : ℕ) where
  -- no tree where an entry is malformed, or an operand is none
  pub no_entry : none ≡ entry_at q i → Treeless q i
  no_entry e t j p = clash (e ∙ (reads_first p).1)

  pub no_not : entry_at q i ≡ some Not → Treeless q (i + 1) → Treeless q i
  no_not e g t j p = g _ j (under p e).2

  pub no_least : {d : Direction} {l t : ℕ} → entry_at q i ≡ some (AtLeast d l t) → Treeless q (i + 1) → Treeless q i
  no_least e g t j p = g _ j (under p e).2

  pub no_first : (k : Kind) → Two k → entry_at q i ≡ some k → Treeless q (i + 1) → Treeless q i
  no_first k (inl h) e g t j p = g _ _ (under p (e ∙ ap some h)).4
  no_first k (inr h) e g t j p = g _ _ (under p (e ∙ ap some h)).4

  pub no_second : (k : Kind) (s : Tree) → Two k → entry_at q i ≡ some k → Spans q (i + 1) (Ok s) → Treeless q s.next → Treeless q i
  unfolding Spans
  no_second k s (inl h) e o g t j w = let z = under w (e ∙ ap some h) in g z.1 j (subst (λ (c : ℕ). Parsed q c z.1 j) (parsed_one z.4 o.1).1 z.5)
  no_second k s (inr h) e o g t j w = let z = under w (e ∙ ap some h) in g z.1 j (subst (λ (c : ℕ). Parsed q c z.1 j) (parsed_one z.4 o.1).1 z.5)

  pub spans_none : (r : Refusal) → Spans q i (Err r) → Treeless q i
  unfolding Spans
  spans_none r h = h.1

  none_spans : Treeless q i → Spans q i (Err Malformation)
  unfolding Spans
  none_spans g = (refl, g)

  pub s_none : none ≡ entry_at q i → Spans q i (Err Malformation)
  s_none e = none_spans (no_entry e)

  pub s_leaf : (k : Kind) → Leaf k → entry_at q i ≡ some k → Spans q i (Ok (record { depth = 0; threshold = 0; next = i + 1 }))
  unfolding Spans depth threshold
  s_leaf k (inl h) e = (always, p_true (e ∙ ap some h), refl, refl)
  s_leaf k (inr (z, h)) e = (literal z, p_literal (e ∙ ap some h), refl, refl)

  pub s_not : (r : Result Tree Refusal) → entry_at q i ≡ some Not → Spans q (i + 1) r → Spans q i r
  unfolding Spans depth threshold
  s_not (Ok s) e (u, p, f, g) = (negation u, p_not e p, f, g)
  s_not (Err r) e (f, g) = (f, no_not e g)

  pub s_least : {d : Direction} {l t : ℕ} (s : Tree) → entry_at q i ≡ some (AtLeast d l t) → Spans q (i + 1) (Ok s) → Spans q i (Ok (raised t s))
  unfolding Spans depth threshold
  s_least {d} {l} {t} s e (u, p, f, g) = (at_least d l t u, p_least e p, rw (f, add-one s.depth), rw g)

  pub s_two : (k : Kind) (s v : Tree) → Two k → entry_at q i ≡ some k → Spans q (i + 1) (Ok s) → Spans q s.next (Ok v) → Spans q i (Ok (joined s v))
  unfolding Spans depth threshold
  s_two k s v (inl h) e (u, p, f, g) (w, r, x, y) = (both u w, p_and (e ∙ ap some h) p r, rw (f, x), rw (g, y))
  s_two k s v (inr h) e (u, p, f, g) (w, r, x, y) = (either u w, p_or (e ∙ ap some h) p r, rw (f, x), rw (g, y))

  -- what is told of a tree's numbers
  pub s_bounds : (s : Tree) → Spans q i (Ok s) → (i < s.next) × (s.next ≤ length q / 4)
  unfolding Spans
  s_bounds s (u, p, f, g) = (forward p, ends p)

  pub s_shallow : (s : Tree) → Spans q i (Ok s) → s.depth < s.next
  unfolding Spans
  s_shallow s (u, p, f, g) = omega (arith, shallow p)

-- ---- an operand that is refused

module _ (q : List ℕ) (i : ℕ) where
  pub s_least_none : {d : Direction} {l t : ℕ} (r : Refusal) → entry_at q i ≡ some (AtLeast d l t) → Spans q (i + 1) (Err r) → Spans q i (Err Malformation)
  s_least_none r e h = none_spans q i (no_least q i e (spans_none q (i + 1) r h))

  pub s_first_none : (k : Kind) (r : Refusal) → Two k → entry_at q i ≡ some k → Spans q (i + 1) (Err r) → Spans q i (Err Malformation)
  s_first_none k r two e h = none_spans q i (no_first q i k two e (spans_none q (i + 1) r h))

  pub s_second_none : (k : Kind) (s : Tree) (r : Refusal) → Two k → entry_at q i ≡ some k → Spans q (i + 1) (Ok s) → Spans q s.next (Err r) →
      Spans q i (Err Malformation)
  s_second_none k s r two e h g = none_spans q i (no_second q i k s two e h (spans_none q s.next r g))

-- ---- one answer only

same_tree : (s v : Tree) → s.depth ≡ v.depth → s.threshold ≡ v.threshold → s.next ≡ v.next → s ≡ v
same_tree s v e f g =
    ap₂ (λ (d t : ℕ). record s { depth = d; threshold = t }) e f ∙ ap (λ (n : ℕ). record v { next = n }) g

pub one_span : (q : List ℕ) (i : ℕ) (a b : Result Tree Refusal) → Spans q i a → Spans q i b → a ≡ b
unfolding Spans
one_span q i (Ok s) (Ok v) (u, p, f, g) (w, r, x, y) =
    let o = parsed_one p r in
    ap Ok (same_tree s v (sym f ∙ ap depth o.0 ∙ x) (sym g ∙ ap threshold o.0 ∙ y) o.1)
one_span q i (Ok s) (Err r) (u, p, f, g) h = absurd (h.1 u s.next p)
one_span q i (Err r) (Ok s) h (u, p, f, g) = absurd (h.1 u s.next p)
one_span q i (Err r) (Err s) h k = ap Err (h.0 ∙ sym k.0)

-- ---- the verdict

verdict_none : (r : Option Question) → ((t : Question) → r ≡ some t → ⊥) → refused 5 ≡ verdict_by r
unfolding verdict_by
verdict_none none f = refl
verdict_none (some t) f = absurd (f t refl)

module _ (q : List ℕ) where
  pub not_fours : (length q % 4 ≡ 0 → ⊥) → refused 5 ≡ verdict q
  unfolding verdict
  not_fours h = verdict_none (question q) (λ t e. h (omega (arith, question_length q t e)))

  pub too_many : 64 < length q / 4 → refused 5 ≡ verdict q
  unfolding verdict
  too_many h = verdict_none (question q) (λ t e. omega (arith, question_length q t e))

  pub no_tree : (r : Refusal) → Spans q 0 (Err r) → refused 5 ≡ verdict q
  unfolding verdict Spans
  no_tree r h = verdict_none (question q) (λ t e. h.1 t _ (parsed_question q t e))

  module _ (s : Tree) (h : Spans q 0 (Ok s)) where
    pub remains : (s.next ≡ length q / 4 → ⊥) → refused 5 ≡ verdict q
    unfolding verdict Spans
    remains f = verdict_none (question q) (λ u e. f (parsed_one h.1 (parsed_question q u e)).1)

    pub whole : length q % 4 ≡ 0 → length q / 4 ≤ 64 → s.next ≡ length q / 4 → accepted s.depth s.threshold ≡ verdict q
    unfolding verdict verdict_by Spans
    whole f g e = sym (rw (question_parsed q h.0 s.next (omega arith) (omega arith) h.1, h.2, h.3))
