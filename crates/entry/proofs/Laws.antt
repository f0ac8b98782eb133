-- What an entry that reads is: it lies within the question, and its parameters are in range. Leans on meaning's QuestionFile.
use mathlib.Core.Path.{◌≡◌, refl, sym, subst}
use mathlib.Core.Bool.{Bool, true, false, cond, ◌&&◌}
use mathlib.Core.List.{List}
use mathlib.Core.Option.{Option, none, some}
use Prim.Native.Nat.{ℕ, ◌+◌, ◌-◌, ◌*◌, ◌/◌, ◌<◌, ◌≤◌}
use native.Mathlib.Omega.{arith}
use lib.IntN.{ℤ, pos, negsuc, nat_abs}
use lib.Dec.{eqb, leb}
use lib.ListN.{length, get_or}
use mir.Syntax.{w8}
use mir.Val.{to_z, of_z, SFits}
use mir.Facts.{to_z-of_z}
use borrow.Author.Tests.{leb-true}
use Rattle.std.proofs.Common.{Option as Read, Some, None}
use Rattle.meaning.specs.WellFormed.{within}
use Rattle.meaning.specs.declared.Direction.{Direction}
use Rattle.meaning.specs.declared.Direction.TheVariants.{Outgoing, Incoming}
use Rattle.meaning.specs.declared.Kind.{Kind}
use Rattle.meaning.specs.declared.Kind.TheVariants.{True, Literal, Not, And, Or, AtLeast}
use Rattle.meaning.specs.QuestionFile.{signed, when, kind}
use Rattle.theory.proofs.CountLaws.{by_bool, and_inv}
use Rattle.entry.specs.Entries.{kind_of, entry_at}

pub clash : {k : Kind} → none ≡ some k → ⊥
clash e = let z : ◌≡◌ {A = ℕ} 0 1 = cc in omega arith

pub same_kind : {a : Option Kind} {k m : Kind} → a ≡ some k → a ≡ some m → k ≡ m
same_kind e f = cc

-- ---- an entry that reads

-- it lies within the question
pub within_question : (q : List ℕ) (i : ℕ) (k : Kind) → entry_at q i ≡ some k → i < length q / 4
unfolding entry_at
within_question q i k e =
    by_bool (leb (4 * i + 4) (length q))
    (λ f. omega (arith, leb-true (4 * i + 4) (length q) f))
    (λ f. absurd (clash (rw f at e)))

-- "k is 1 to 32", "label (byte − 16)", "t, 1 to 8"
unfoldable pub KindFine : Kind → Type 0
KindFine True = Unit {0}
KindFine (Literal z) = (1 ≤ nat_abs z) × (nat_abs z ≤ 32)
KindFine Not = Unit {0}
KindFine And = Unit {0}
KindFine Or = Unit {0}
KindFine (AtLeast d l t) = (l < 16) × (1 ≤ t) × (t ≤ 8)

Fine : Option Kind → Type 0
Fine none = Unit {0}
Fine (some k) = KindFine k

of_cond : (t : Bool) (x y : Option Kind) → (t ≡ true → Fine x) → Fine y → Fine (cond t x y)
of_cond true x y f g = f refl
of_cond false x y f g = g

of_when : (t : Bool) (k : Kind) → (t ≡ true → KindFine k) → Fine (when t k)
unfolding when Fine
of_when true k h = h refl
of_when false k h = tt

between : (a x z : ℕ) → within a x z ≡ true → (a ≤ x) × (x ≤ z)
unfolding within
between a x z e = let f = and_inv (leb a x) (leb x z) e in (leb-true a x f.0, leb-true x z f.1)

kind_fine : (a v : ℕ) → Fine (kind a v)
unfolding kind Fine KindFine
kind_fine a v =
    of_cond (eqb a 0) _ _ (λ e. of_when (eqb v 0) True (λ f. tt))
    (of_cond (eqb a 1) _ _ (λ e. of_when _ (Literal (signed v)) (between 1 (nat_abs (signed v)) 32))
    (of_cond (eqb a 2) _ _ (λ e. of_when (eqb v 0) Not (λ f. tt))
    (of_cond (eqb a 3) _ _ (λ e. of_when (eqb v 0) And (λ f. tt))
    (of_cond (eqb a 4) _ _ (λ e. of_when (eqb v 0) Or (λ f. tt))
    (of_cond (within 16 a 31) _ _
    (λ e. of_when (within 1 v 8) (AtLeast Outgoing (a - 16) v) (λ f. let w = between 1 v 8 f in (omega (arith, between 16 a 31 e), w.0, w.1)))
    (of_cond (within 32 a 47) _ none
    (λ e. of_when (within 1 v 8) (AtLeast Incoming (a - 32) v) (λ f. let w = between 1 v 8 f in (omega (arith, between 32 a 47 e), w.0, w.1))) tt))))))

entry_fine : (q : List ℕ) (i : ℕ) → Fine (entry_at q i)
unfolding entry_at Fine
entry_fine q i =
    let read = kind (get_or q (4 * i) 0) (get_or q (4 * i + 1) 0) in
    let zeros = eqb (get_or q (4 * i + 2) 0) 0 && eqb (get_or q (4 * i + 3) 0) 0 in
    of_cond (leb (4 * i + 4) (length q)) (cond zeros read none) none
    (λ e. of_cond zeros read none (λ f. kind_fine (get_or q (4 * i) 0) (get_or q (4 * i + 1) 0)) tt) tt

pub kind_read : {k : Kind} (q : List ℕ) (i : ℕ) → entry_at q i ≡ some k → KindFine k
unfolding Fine
kind_read {k} q i e = subst Fine e (entry_fine q i)

pub literal_read : {z : ℤ} (q : List ℕ) (i : ℕ) → entry_at q i ≡ some (Literal z) → (1 ≤ nat_abs z) × (nat_abs z ≤ 32)
unfolding KindFine
literal_read q i e = kind_read q i e

-- so it is the signed byte that its bits are, as a call hands it on
literal_fits : (z : ℤ) → nat_abs z ≤ 32 → SFits w8 z
literal_fits (pos n) h = record { sfits = omega arith }
literal_fits (negsuc n) h = record { sfits = omega arith }

-- a literal reaches a callee as it is
pub literal_same : (z : ℤ) → nat_abs z ≤ 32 → to_z w8 (of_z w8 z) ≡ z
literal_same z h = to_z-of_z (literal_fits z h)

pub literal_back : {z : ℤ} (q : List ℕ) (i : ℕ) → entry_at q i ≡ some (Literal z) → to_z w8 (of_z w8 z) ≡ z
literal_back {z} q i e = literal_same z (literal_read q i e).1

pub least_read : {d : Direction} {l t : ℕ} (q : List ℕ) (i : ℕ) → entry_at q i ≡ some (AtLeast d l t) → (l < 16) × (1 ≤ t) × (t ≤ 8)
unfolding KindFine
least_read q i e = kind_read q i e

-- ---- one answer only

pub one_reading : (a b : Read Kind) → kind_of a ≡ kind_of b → a ≡ b
one_reading (Some k) (Some m) e = let f : k ≡ m = cc in cc
one_reading (Some k) None e = absurd (clash (sym e))
one_reading None (Some m) e = absurd (clash e)
one_reading None None e = refl
