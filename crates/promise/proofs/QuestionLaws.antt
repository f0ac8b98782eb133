-- What a question that is read has: in every entry what document 01's table allows, so labels below 16 and thresholds of 1 to 8.
-- Leans on QuestionFile for the reading, and on theory for the tree that entries read as.
use mathlib.Core.Path.{◌≡◌, refl, sym, subst}
use mathlib.Core.Bool.{Bool, true, false, cond, ◌&&◌}
use mathlib.Core.List.{List, [], ◌∷◌}
use mathlib.Core.Option.{Option, none, some}
use Prim.Native.Nat.{ℕ, ◌-◌, ◌≤◌, ◌<◌}
use native.Mathlib.Omega.{arith}
use borrow.Author.Tests.{leb-true}
use lib.ListN.{length}
use lib.Dec.{eqb, leb}
use lib.IntN.{nat_abs}
use Rattle.meaning.specs.Count.{Every}
use Rattle.theory.proofs.CountLaws.{and_inv, every_map}
use Rattle.meaning.specs.declared.Direction.{Direction}
use Rattle.meaning.specs.declared.Direction.TheVariants.{Outgoing, Incoming}
use Rattle.meaning.specs.Question.{Question, threshold, Labelled}
use Rattle.meaning.specs.Reading.{entries_of, LabelIn}
use Rattle.meaning.specs.declared.Kind.{Kind}
use Rattle.meaning.specs.declared.Kind.TheVariants.{True, Literal, Not, And, Or, AtLeast}
use Rattle.theory.proofs.ReadingLaws.{tree_sound, labelled, SecondIn, thresholds}
use Rattle.meaning.specs.WellFormed.{within}
use Rattle.meaning.specs.QuestionFile.{signed, when, kind, and_kind, kinds, tree_of, question}

-- ---- an entry that is read is in range

-- its label is below 16, its threshold 1 to 8, its literal 1 to 32 or −1 to −32
abbrev pub EntryIn : Kind → Type 0
EntryIn k = LabelIn k × SecondIn k

IfRead : Option Kind → Type 0
IfRead none = Unit {0}
IfRead (some k) = EntryIn k

of_cond : (t : Bool) (x y : Option Kind) → (t ≡ true → IfRead x) → IfRead y → IfRead (cond t x y)
of_cond true x y f g = f refl
of_cond false x y f g = g

of_when : (t : Bool) (k : Kind) → (t ≡ true → EntryIn k) → IfRead (when t k)
unfolding when IfRead
of_when true k h = h refl
of_when false k h = tt

between : (a x z : ℕ) → within a x z ≡ true → (a ≤ x) × (x ≤ z)
unfolding within
between a x z e = let f = and_inv (leb a x) (leb x z) e in (leb-true a x f.0, leb-true x z f.1)

least_in : (d : Direction) (l v : ℕ) → l < 16 → IfRead (when (within 1 v 8) (AtLeast d l v))
unfolding LabelIn SecondIn
least_in d l v h = of_when (within 1 v 8) (AtLeast d l v) (λ f. (h, between 1 v 8 f))

kind_in : (a v : ℕ) → IfRead (kind a v)
unfolding kind IfRead LabelIn SecondIn
kind_in a v =
    of_cond (eqb a 0) _ _ (λ e. of_when (eqb v 0) True (λ f. (tt, tt)))
    (of_cond (eqb a 1) _ _ (λ e. of_when (within 1 (nat_abs (signed v)) 32) (Literal (signed v)) (λ f. (tt, between 1 (nat_abs (signed v)) 32 f)))
    (of_cond (eqb a 2) _ _ (λ e. of_when (eqb v 0) Not (λ f. (tt, tt)))
    (of_cond (eqb a 3) _ _ (λ e. of_when (eqb v 0) And (λ f. (tt, tt)))
    (of_cond (eqb a 4) _ _ (λ e. of_when (eqb v 0) Or (λ f. (tt, tt)))
    (of_cond (within 16 a 31) _ _ (λ e. least_in Outgoing (a - 16) v (omega (arith, between 16 a 31 e)))
    (of_cond (within 32 a 47) _ none (λ e. least_in Incoming (a - 32) v (omega (arith, between 32 a 47 e))) tt))))))

-- ---- so every entry of a question is

and_in : (k : Option Kind) (r : Option (List Kind)) (ks : List Kind) → IfRead k → ((rs : List Kind) → r ≡ some rs → Every EntryIn rs) →
    and_kind k r ≡ some ks → Every EntryIn ks
unfolding and_kind IfRead Every
and_in none r ks h f e = let z : ◌≡◌ {A = ℕ} 0 1 = cc in absurd (omega arith)
and_in (some k) none ks h f e = let z : ◌≡◌ {A = ℕ} 0 1 = cc in absurd (omega arith)
and_in (some k) (some rs) ks h f e = let g : k ∷ rs ≡ ks = cc in subst (Every EntryIn) g (h, f rs refl)

kinds_in : (q : List ℕ) (ks : List Kind) → kinds q ≡ some ks → Every EntryIn ks
unfolding kinds Every IfRead
kinds_in [] ks e = let g : [] ≡ ks = cc in subst (Every EntryIn) g tt
kinds_in (a ∷ []) ks e = let z : ◌≡◌ {A = ℕ} 0 1 = cc in absurd (omega arith)
kinds_in (a ∷ v ∷ []) ks e = let z : ◌≡◌ {A = ℕ} 0 1 = cc in absurd (omega arith)
kinds_in (a ∷ v ∷ c ∷ []) ks e = let z : ◌≡◌ {A = ℕ} 0 1 = cc in absurd (omega arith)
kinds_in (a ∷ v ∷ c ∷ d ∷ rest) ks e =
    and_in (cond (eqb c 0 && eqb d 0) (kind a v) none) (kinds rest) ks (of_cond (eqb c 0 && eqb d 0) (kind a v) none (λ f. kind_in a v) tt)
    (λ rs f. kinds_in rest rs f) e

tree_in : (r : Option (List Kind)) (t : Question) → ((ks : List Kind) → r ≡ some ks → Every EntryIn ks) →
    tree_of r ≡ some t → Every EntryIn (entries_of t)
unfolding tree_of
tree_in none t f e = let z : ◌≡◌ {A = ℕ} 0 1 = cc in absurd (omega arith)
tree_in (some ks) t f e = subst (Every EntryIn) (sym (tree_sound ks t e)) (f ks refl)

cond_some : (c : Bool) (x : Option Question) (t : Question) → cond c x none ≡ some t → x ≡ some t
cond_some true x t e = e
cond_some false x t e = let z : ◌≡◌ {A = ℕ} 0 1 = cc in absurd (omega arith)

pub question_entries : (q : List ℕ) (t : Question) → question q ≡ some t → Every EntryIn (entries_of t)
unfolding question
question_entries q t e = tree_in (kinds q) t (kinds_in q) (cond_some (leb (length q) 256) (tree_of (kinds q)) t e)

-- ---- and so are the labels and the thresholds of its tree

pub question_labelled : (q : List ℕ) (t : Question) → question q ≡ some t → Labelled t
question_labelled q t e = labelled t (every_map EntryIn LabelIn (entries_of t) (λ k h. h.0) (question_entries q t e))

pub question_thresholds : (q : List ℕ) (t : Question) → question q ≡ some t → threshold t ≤ 8
question_thresholds q t e = thresholds t (every_map EntryIn SecondIn (entries_of t) (λ k h. h.1) (question_entries q t e))
