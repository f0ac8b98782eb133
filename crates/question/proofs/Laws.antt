-- How a question's bytes read as a tree, over lists: one tree at most stands at an entry, which is the tree of the question, and a
-- tree stands at every entry of a question. Leans on theory's ReadingLaws and on meaning's QuestionFile.
use mathlib.Core.Path.{◌≡◌, refl, sym, ap, subst, ◌∙◌}
use mathlib.Core.Bool.{Bool, true, false, cond, ◌&&◌}
use mathlib.Core.List.{List, [], ◌∷◌, ◌++◌}
use mathlib.Core.Option.{Option, none, some}
use Prim.Native.Nat.{ℕ, suc, ◌+◌, ◌*◌, ◌/◌, ◌<◌, ◌≤◌}
use native.Mathlib.Omega.{arith}
use lib.IntN.{ℤ}
use lib.Dec.{eqb, leb}
use lib.ListN.{length, get_or, length-append}
use borrow.Author.Tests.{le-leb, lt-leb, leb-true, leb-false}
use Rattle.std.proofs.Common.{Result, Ok}
use Rattle.meaning.specs.Question.{Question, always, literal, negation, both, either, at_least, depth, threshold}
use Rattle.meaning.specs.Reading.{entries_of}
use Rattle.meaning.specs.declared.Direction.{Direction}
use Rattle.meaning.specs.declared.Kind.{Kind}
use Rattle.meaning.specs.declared.Kind.TheVariants.{True, Literal, Not, And, Or, AtLeast}
use Rattle.meaning.specs.declared.Refusal.{Refusal}
use Rattle.meaning.specs.QuestionFile.{kind, and_kind, kinds, tree_of, question}
use Rattle.theory.proofs.CountLaws.{by_bool, by_eq}
use Rattle.theory.proofs.ReadingLaws.{tree_sound, tree_complete}
use Rattle.entry.specs.Entries.{entry_at}
use Rattle.entry.proofs.Laws.{same_kind, within_question}
use Rattle.question.specs.Read.{Parsed, p_true, p_literal, p_not, p_and, p_or, p_least, accepted, refused, verdict_by, verdict}

-- ---- where a tree that stands at an entry ends

module _ {q : List ℕ} where
  pub forward : {i j : ℕ} {t : Question} → Parsed q i t j → i < j
  forward (p_true e) = omega arith
  forward (p_literal e) = omega arith
  forward (p_not e p) = omega (arith, forward p)
  forward (p_and e p r) = omega (arith, forward p, forward r)
  forward (p_or e p r) = omega (arith, forward p, forward r)
  forward (p_least e p) = omega (arith, forward p)

  pub ends : {i j : ℕ} {t : Question} → Parsed q i t j → j ≤ length q / 4
  ends {i} (p_true e) = omega (arith, within_question q i _ e)
  ends {i} (p_literal e) = omega (arith, within_question q i _ e)
  ends (p_not e p) = ends p
  ends (p_and e p r) = ends r
  ends (p_or e p r) = ends r
  ends (p_least e p) = ends p

  -- a tree is less deep than it has entries
  pub shallow : {i j : ℕ} {t : Question} → Parsed q i t j → depth t + i < j
  unfolding depth
  shallow (p_true e) = omega arith
  shallow (p_literal e) = omega arith
  shallow (p_not e p) = omega (arith, shallow p)
  shallow (p_and e p r) = omega (arith, shallow p, shallow r, forward r)
  shallow (p_or e p r) = omega (arith, shallow p, shallow r, forward r)
  shallow (p_least e p) = omega (arith, shallow p)

  pub reads_first : {i j : ℕ} {t : Question} → Parsed q i t j → (k : Kind) × (entry_at q i ≡ some k)
  reads_first (p_true e) = (_, e)
  reads_first (p_literal e) = (_, e)
  reads_first (p_not e p) = (_, e)
  reads_first (p_and e p r) = (_, e)
  reads_first (p_or e p r) = (_, e)
  reads_first (p_least e p) = (_, e)

-- ---- what a tree is, by the kind of its first entry

abbrev pub Under : List ℕ → ℕ → Kind → Question → ℕ → Type 0
Under q i True t j = (t ≡ always) × (j ≡ i + 1)
Under q i (Literal z) t j = (t ≡ literal z) × (j ≡ i + 1)
Under q i Not t j = (p : Question) × (t ≡ negation p) × Parsed q (i + 1) p j
Under q i And t j = (p : Question) × (r : Question) × (m : ℕ) × (t ≡ both p r) × Parsed q (i + 1) p m × Parsed q m r j
Under q i Or t j = (p : Question) × (r : Question) × (m : ℕ) × (t ≡ either p r) × Parsed q (i + 1) p m × Parsed q m r j
Under q i (AtLeast d l n) t j = (p : Question) × (t ≡ at_least d l n p) × Parsed q (i + 1) p j

pub under : {q : List ℕ} {i j : ℕ} {t : Question} {k : Kind} → Parsed q i t j → entry_at q i ≡ some k → Under q i k t j
under {q} {i} {j} {t} (p_true e) f = subst (λ (k : Kind). Under q i k always (i + 1)) (same_kind e f) (refl, refl)
under {q} {i} {j} {t} (p_literal {z = z} e) f = subst (λ (k : Kind). Under q i k (literal z) (i + 1)) (same_kind e f) (refl, refl)
under {q} {i} {j} {t} (p_not {t = p} e s) f = subst (λ (k : Kind). Under q i k t j) (same_kind e f) (p, refl, s)
under {q} {i} {j} {t} (p_and {j = m} {t = p} {u = r} e s w) f = subst (λ (k : Kind). Under q i k t j) (same_kind e f) (p, r, m, refl, s, w)
under {q} {i} {j} {t} (p_or {j = m} {t = p} {u = r} e s w) f = subst (λ (k : Kind). Under q i k t j) (same_kind e f) (p, r, m, refl, s, w)
under {q} {i} {j} {t} (p_least {t = p} e s) f = subst (λ (k : Kind). Under q i k t j) (same_kind e f) (p, refl, s)

module _ {q : List ℕ} {i j : ℕ} {t : Question} (s : Parsed q i t j) where
  pub parsed_true : entry_at q i ≡ some True → (t ≡ always) × (j ≡ i + 1)
  parsed_true e = under s e

  pub parsed_literal : {z : ℤ} → entry_at q i ≡ some (Literal z) → (t ≡ literal z) × (j ≡ i + 1)
  parsed_literal e = under s e

  pub parsed_not : entry_at q i ≡ some Not → (p : Question) × (t ≡ negation p) × Parsed q (i + 1) p j
  parsed_not e = under s e

  pub parsed_and : entry_at q i ≡ some And → (p : Question) × (r : Question) × (m : ℕ) × (t ≡ both p r) × Parsed q (i + 1) p m × Parsed q m r j
  parsed_and e = under s e

  pub parsed_or : entry_at q i ≡ some Or → (p : Question) × (r : Question) × (m : ℕ) × (t ≡ either p r) × Parsed q (i + 1) p m × Parsed q m r j
  parsed_or e = under s e

  pub parsed_least : {d : Direction} {l n : ℕ} → entry_at q i ≡ some (AtLeast d l n) → (p : Question) × (t ≡ at_least d l n p) × Parsed q (i + 1) p j
  parsed_least e = under s e

-- ---- one tree at most stands at an entry

one_end : {q : List ℕ} {i j m : ℕ} {t u : Question} → Parsed q i t j → Parsed q i u m → j ≡ m
one_end (p_true e) r = sym (under r e).1
one_end (p_literal e) r = sym (under r e).1
one_end (p_not e p) r = one_end p (under r e).2
one_end {q} {i} {j} {m} (p_and e p p') r = let n = under r e in one_end p' (subst (λ (x : ℕ). Parsed q x n.1 m) (sym (one_end p n.4)) n.5)
one_end {q} {i} {j} {m} (p_or e p p') r = let n = under r e in one_end p' (subst (λ (x : ℕ). Parsed q x n.1 m) (sym (one_end p n.4)) n.5)
one_end (p_least e p) r = one_end p (under r e).2

one_tree : {q : List ℕ} {i j m : ℕ} {t u : Question} → Parsed q i t j → Parsed q i u m → t ≡ u
one_tree (p_true e) r = sym (under r e).0
one_tree (p_literal e) r = sym (under r e).0
one_tree (p_not e p) r = let n = under r e in ap negation (one_tree p n.2) ∙ sym n.1
one_tree {q} {i} {j} {m} (p_and e p p') r =
    let n = under r e in
    let f = one_tree p n.4 in
    let g = one_tree p' (subst (λ (x : ℕ). Parsed q x n.1 m) (sym (one_end p n.4)) n.5) in
    cc
one_tree {q} {i} {j} {m} (p_or e p p') r =
    let n = under r e in
    let f = one_tree p n.4 in
    let g = one_tree p' (subst (λ (x : ℕ). Parsed q x n.1 m) (sym (one_end p n.4)) n.5) in
    cc
one_tree (p_least e p) r = let n = under r e in cc (one_tree p n.2)

pub parsed_one : {q : List ℕ} {i j m : ℕ} {t u : Question} → Parsed q i t j → Parsed q i u m → (t ≡ u) × (j ≡ m)
parsed_one p r = (one_tree p r, one_end p r)

-- ---- a tree stands at every entry of a tree

-- either it is the first, or it stands among the operands'
at_first : {q : List ℕ} {a b : ℕ} {t : Question} (i : ℕ) → Parsed q a t b → a ≡ i → (u : Question) × (j : ℕ) × Parsed q i u j × (i < j) × (j ≤ b)
at_first {q} {a} {b} {t} i p e = (t, b, subst (λ (x : ℕ). Parsed q x t b) e p, omega (arith, forward p), omega arith)

inner : {q : List ℕ} {a b : ℕ} {t : Question} (i : ℕ) → Parsed q a t b → a ≤ i → i < b → (u : Question) × (j : ℕ) × Parsed q i u j × (i < j) × (j ≤ b)
inner {q} {a} {b} {t} i (p_true e) h k = at_first i (p_true e) (omega arith)
inner {q} {a} {b} {t} i (p_literal e) h k = at_first i (p_literal e) (omega arith)
inner {q} {a} {b} {t} i (p_not e p) h k = by_eq a i (at_first i (p_not e p)) (λ n. inner i p (omega arith) k)
inner {q} {a} {b} {t} i (p_least e p) h k = by_eq a i (at_first i (p_least e p)) (λ n. inner i p (omega arith) k)
inner {q} {a} {b} {t} i (p_and {j = m} e p r) h k =
    by_eq a i (at_first i (p_and e p r))
    (λ n. by_bool (leb m i)
    (λ f. inner i r (leb-true m i f) k)
    (λ f. let w = inner i p (omega arith) (leb-false m i f) in (w.0, w.1, w.2, w.3, omega (arith, w.4, forward r))))
inner {q} {a} {b} {t} i (p_or {j = m} e p r) h k =
    by_eq a i (at_first i (p_or e p r))
    (λ n. by_bool (leb m i)
    (λ f. inner i r (leb-true m i f) k)
    (λ f. let w = inner i p (omega arith) (leb-false m i f) in (w.0, w.1, w.2, w.3, omega (arith, w.4, forward r))))

-- ---- entries one after another

-- from entry i on, q has these entries
Has : List ℕ → ℕ → List Kind → Type 0
Has q i [] = Unit {0}
Has q i (k ∷ ks) = (entry_at q i ≡ some k) × Has q (i + 1) ks

has_append : (q : List ℕ) (i j : ℕ) (ks ls : List Kind) → j ≡ i + length ks → Has q i ks → Has q j ls → Has q i (ks ++ ls)
unfolding Has
has_append q i j [] ls e f g = let z : j ≡ i = omega arith in rw (← z) g
has_append q i j (k ∷ ks) ls e f g = (f.0, has_append q (i + 1) j ks ls (omega arith) f.1 g)

has_split : (q : List ℕ) (i : ℕ) (ks ls : List Kind) → Has q i (ks ++ ls) → Has q i ks × Has q (i + length ks) ls
unfolding Has
has_split q i [] ls f = let z : i + 0 ≡ i = omega arith in (tt, rw z f)
has_split q i (k ∷ ks) ls f =
    let w = has_split q (i + 1) ks ls f.1 in
    let z : i + suc (length ks) ≡ i + 1 + length ks = omega arith in
    ((f.0, w.0), rw z w.1)

-- the tree that stands at entries i up to j is the one whose entries these are
parsed_has : {q : List ℕ} {i j : ℕ} {t : Question} → Parsed q i t j → Has q i (entries_of t) × (j ≡ i + length (entries_of t))
unfolding Has entries_of
parsed_has (p_true e) = ((e, tt), omega arith)
parsed_has (p_literal e) = ((e, tt), omega arith)
parsed_has (p_not e p) = let w = parsed_has p in ((e, w.0), omega (arith, w.1))
parsed_has (p_least e p) = let w = parsed_has p in ((e, w.0), omega (arith, w.1))
parsed_has {q} {i} (p_and {t = t} {u = u} e p r) =
    let w = parsed_has p in
    let x = parsed_has r in
    ((e, has_append q (i + 1) _ (entries_of t) (entries_of u) w.1 w.0 x.0), omega (arith, w.1, x.1, length-append (entries_of t) (entries_of u)))
parsed_has {q} {i} (p_or {t = t} {u = u} e p r) =
    let w = parsed_has p in
    let x = parsed_has r in
    ((e, has_append q (i + 1) _ (entries_of t) (entries_of u) w.1 w.0 x.0), omega (arith, w.1, x.1, length-append (entries_of t) (entries_of u)))

has_parsed : (q : List ℕ) (i j : ℕ) (t : Question) → Has q i (entries_of t) → j ≡ i + length (entries_of t) → Parsed q i t j
unfolding Has entries_of
has_parsed q i j always h e = let z : j ≡ i + 1 = omega arith in rw z (p_true h.0)
has_parsed q i j (literal z) h e = let z : j ≡ i + 1 = omega arith in rw z (p_literal h.0)
has_parsed q i j (negation t) h e = p_not h.0 (has_parsed q (i + 1) j t h.1 (omega arith))
has_parsed q i j (at_least d l n t) h e = p_least h.0 (has_parsed q (i + 1) j t h.1 (omega arith))
has_parsed q i j (both t u) h e =
    let w = has_split q (i + 1) (entries_of t) (entries_of u) h.1 in
    p_and h.0 (has_parsed q (i + 1) _ t w.0 refl) (has_parsed q _ j u w.1 (omega (arith, length-append (entries_of t) (entries_of u))))
has_parsed q i j (either t u) h e =
    let w = has_split q (i + 1) (entries_of t) (entries_of u) h.1 in
    p_or h.0 (has_parsed q (i + 1) _ t w.0 refl) (has_parsed q _ j u w.1 (omega (arith, length-append (entries_of t) (entries_of u))))

-- ---- the kinds of all entries

module _ (a v c d : ℕ) (rest : List ℕ) where
  abbrev four : List ℕ
  four = a ∷ v ∷ c ∷ d ∷ rest

  entry_zero : entry_at four 0 ≡ cond (eqb c 0 && eqb d 0) (kind a v) none
  unfolding entry_at
  entry_zero = rw (le-leb 4 (length four) (omega arith))

  leb_four : (i : ℕ) → leb (4 * suc i + 4) (length four) ≡ leb (4 * i + 4) (length rest)
  leb_four i =
      by_bool (leb (4 * i + 4) (length rest))
      (λ e. le-leb (4 * suc i + 4) (length four) (omega (arith, leb-true (4 * i + 4) (length rest) e)) ∙ sym e)
      (λ e. lt-leb (4 * suc i + 4) (length four) (omega (arith, leb-false (4 * i + 4) (length rest) e)) ∙ sym e)

  byte_suc : (i k : ℕ) → get_or four (4 * suc i + k) 0 ≡ get_or rest (4 * i + k) 0
  byte_suc i k = let z : 4 * suc i + k ≡ suc (suc (suc (suc (4 * i + k)))) = omega arith in rw z

  entry_suc : (i : ℕ) → entry_at four (suc i) ≡ entry_at rest i
  unfolding entry_at
  entry_suc i =
      let y : 4 * suc i ≡ suc (suc (suc (suc (4 * i)))) = omega arith in
      rw (leb_four i, byte_suc i 1, byte_suc i 2, byte_suc i 3, y)

  has_suc : (i j : ℕ) (ks : List Kind) → j ≡ suc i → Has rest i ks → Has four j ks
  unfolding Has
  has_suc i j [] e h = tt
  has_suc i j (k ∷ ks) e h = (ap (entry_at four) e ∙ entry_suc i ∙ h.0, has_suc (i + 1) (j + 1) ks (omega arith) h.1)

  suc_has : (i j : ℕ) (ks : List Kind) → j ≡ suc i → Has four j ks → Has rest i ks
  unfolding Has
  suc_has i j [] e h = tt
  suc_has i j (k ∷ ks) e h = (sym (entry_suc i) ∙ ap (entry_at four) (sym e) ∙ h.0, suc_has (i + 1) (j + 1) ks (omega arith) h.1)

and_kind_law : (k : Option Kind) (r : Option (List Kind)) (ks : List Kind) → and_kind k r ≡ some ks →
    (m : Kind) × (ms : List Kind) × (k ≡ some m) × (r ≡ some ms) × (m ∷ ms ≡ ks)
unfolding and_kind
and_kind_law none r ks e = let z : ◌≡◌ {A = ℕ} 0 1 = cc in absurd (omega arith)
and_kind_law (some k) none ks e = let z : ◌≡◌ {A = ℕ} 0 1 = cc in absurd (omega arith)
and_kind_law (some k) (some ms) ks e = (k, ms, refl, refl, cc)

kinds_has : (q : List ℕ) (ks : List Kind) → kinds q ≡ some ks → Has q 0 ks × (length q ≡ 4 * length ks)
unfolding kinds Has
kinds_has [] ks e = let g : [] ≡ ks = cc in subst (λ (x : List Kind). Has [] 0 x × (0 ≡ 4 * length x)) g (tt, refl)
kinds_has (a ∷ []) ks e = let z : ◌≡◌ {A = ℕ} 0 1 = cc in absurd (omega arith)
kinds_has (a ∷ v ∷ []) ks e = let z : ◌≡◌ {A = ℕ} 0 1 = cc in absurd (omega arith)
kinds_has (a ∷ v ∷ c ∷ []) ks e = let z : ◌≡◌ {A = ℕ} 0 1 = cc in absurd (omega arith)
kinds_has (a ∷ v ∷ c ∷ d ∷ rest) ks e =
    let w = and_kind_law _ (kinds rest) ks e in
    let more = kinds_has rest w.1 w.3 in
    subst (λ (x : List Kind). Has (a ∷ v ∷ c ∷ d ∷ rest) 0 x × (length (a ∷ v ∷ c ∷ d ∷ rest) ≡ 4 * length x)) w.4
    ((entry_zero a v c d rest ∙ w.2, has_suc a v c d rest 0 1 w.1 refl more.0), omega (arith, more.1))

has_kinds : (q : List ℕ) (ks : List Kind) → Has q 0 ks → length q ≡ 4 * length ks → kinds q ≡ some ks
unfolding kinds Has and_kind
has_kinds [] [] h e = refl
has_kinds [] (k ∷ ks) h e = absurd (omega arith)
has_kinds (a ∷ []) ks h e = absurd (omega arith)
has_kinds (a ∷ v ∷ []) ks h e = absurd (omega arith)
has_kinds (a ∷ v ∷ c ∷ []) ks h e = absurd (omega arith)
has_kinds (a ∷ v ∷ c ∷ d ∷ rest) [] h e = absurd (omega arith)
has_kinds (a ∷ v ∷ c ∷ d ∷ rest) (k ∷ ks) h e =
    rw (sym (entry_zero a v c d rest) ∙ h.0, has_kinds rest ks (suc_has a v c d rest 0 1 ks refl h.1) (omega arith))

-- ---- the question

tree_some : (r : Option (List Kind)) (t : Question) → tree_of r ≡ some t → r ≡ some (entries_of t)
unfolding tree_of
tree_some none t e = let z : ◌≡◌ {A = ℕ} 0 1 = cc in absurd (omega arith)
tree_some (some ks) t e = ap some (sym (tree_sound ks t e))

cond_some : (c : Bool) (x : Option Question) (t : Question) → cond c x none ≡ some t → (c ≡ true) × (x ≡ some t)
cond_some true x t e = (refl, e)
cond_some false x t e = let z : ◌≡◌ {A = ℕ} 0 1 = cc in absurd (omega arith)

-- a question's length: "1 to 64 entries of four bytes"
pub question_length : (q : List ℕ) (t : Question) → question q ≡ some t → (length q ≡ 4 * (length q / 4)) × (1 ≤ length q / 4) × (length q / 4 ≤ 64)
unfolding question
question_length q t e =
    let w = cond_some (leb (length q) 256) (tree_of (kinds q)) t e in
    let h = kinds_has q (entries_of t) (tree_some (kinds q) t w.1) in
    let p = has_parsed q 0 (length (entries_of t)) t h.0 (omega arith) in
    (omega (arith, h.1), omega (arith, h.1, forward p), omega (arith, leb-true (length q) 256 w.0))

pub parsed_question : (q : List ℕ) (t : Question) → question q ≡ some t → Parsed q 0 t (length q / 4)
unfolding question
parsed_question q t e =
    let w = cond_some (leb (length q) 256) (tree_of (kinds q)) t e in
    let h = kinds_has q (entries_of t) (tree_some (kinds q) t w.1) in
    has_parsed q 0 (length q / 4) t h.0 (omega (arith, h.1))

pub question_parsed : (q : List ℕ) (t : Question) (k : ℕ) → 4 * k ≡ length q → k ≤ 64 → Parsed q 0 t k → question q ≡ some t
unfolding question tree_of
question_parsed q t k e h p =
    let w = parsed_has p in
    let f : kinds q ≡ some (entries_of t) = has_kinds q (entries_of t) w.0 (omega (arith, w.1)) in
    rw (le-leb (length q) 256 (omega arith), f) (tree_complete t)

-- ---- every entry of a question

module _ (q : List ℕ) (t : Question) (e : question q ≡ some t) (i : ℕ) (h : i < length q / 4) where
  pub everywhere : (u : Question) × (j : ℕ) × Parsed q i u j × (i < j) × (j ≤ length q / 4)
  everywhere = inner i (parsed_question q t e) (omega arith) h

  pub every_entry : (k : Kind) × (entry_at q i ≡ some k)
  every_entry = reads_first everywhere.2

-- ---- what a verdict says of the question

accepts : (r : Option Question) (d t : ℕ) → accepted d t ≡ verdict_by r → (u : Question) × (r ≡ some u) × (depth u ≡ d) × (threshold u ≡ t)
unfolding verdict_by
accepts none d t e = let z : ◌≡◌ {A = ℕ} 0 1 = cc in absurd (omega arith)
accepts (some u) d t e = (u, refl, cc, cc)

refuses : (r : Option Question) (k : ℕ) → refused k ≡ verdict_by r → (r ≡ none) × (k ≡ 5)
unfolding verdict_by
refuses none k e = (refl, cc)
refuses (some u) k e = let z : ◌≡◌ {A = ℕ} 0 1 = cc in absurd (omega arith)

pub verdict_accepted : (q : List ℕ) (d t : ℕ) → accepted d t ≡ verdict q → (u : Question) × (question q ≡ some u) × (depth u ≡ d) × (threshold u ≡ t)
unfolding verdict
verdict_accepted q d t e = accepts (question q) d t e

pub verdict_refused : (q : List ℕ) (k : ℕ) → refused k ≡ verdict q → (question q ≡ none) × (k ≡ 5)
unfolding verdict
verdict_refused q k e = refuses (question q) k e

-- ---- what is said is said once, and is not refused

pub said_one : {A : Type 0} (r : Result A Refusal) (s t : A) → r ≡ Ok s → r ≡ Ok t → s ≡ t
said_one r s t e f = cc
