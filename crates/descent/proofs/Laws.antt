-- What is said of a tree at an item, put together from what is said of its operands there and at its neighbours. Leans on question's laws of
-- the tree that stands at an entry, and on nearby's of the links of an item.
use mathlib.Core.Path.{◌≡◌, refl, sym, ap, ◌∙◌}
use mathlib.Core.Bool.{Bool, true, false, cond, ◌&&◌}
use mathlib.Core.List.{List}
use mathlib.Core.Option.{some}
use Prim.Native.Nat.{ℕ, ◌+◌, ◌-◌, ◌≤◌, ◌<◌}
use native.Mathlib.Omega.{arith}
use borrow.Author.Tests.{le-leb, lt-leb, eq-eqb}
use lib.Dec.{eqb}
use lib.ListN.{length}
use Rattle.std.proofs.Common.{Result, Ok, Err}
use Rattle.meaning.specs.Count.{tally}
use Rattle.meaning.specs.Register.{Register, marks_of, link_of, near, far, leads, neighbours}
use Rattle.meaning.specs.declared.Direction.{Direction}
use Rattle.meaning.specs.declared.Kind.{Kind}
use Rattle.meaning.specs.declared.Kind.TheVariants.{AtLeast}
use Rattle.meaning.specs.Question.{Question, holds}
use Rattle.question.specs.declared.Tree.{Tree}
use Rattle.entry.specs.Entries.{entry_at}
use Rattle.question.specs.Read.{Parsed, Spans}
use Rattle.question.proofs.Laws.{parsed_least}
use Rattle.question.proofs.Steps.{Two}
use Rattle.memo.specs.Kept.{Says, decides}
use Rattle.memo.proofs.Laws.{Truth, says_second}
use Rattle.nearby.specs.Nearby.{Last}
use Rattle.nearby.proofs.Laws.{count_last, count_own, count_all}
use Rattle.descent.specs.declared.Unsaid.{Unsaid}
use Rattle.descent.specs.Tells.{reaching, leading, Tells}

-- ---- whether an entry holds, by its kind

module _ (R : Register) (x : ℕ) where
  abbrev here : Question → Bool
  here t = holds R t x

  pub truth : Truth (marks_of R x) here
  unfolding holds
  truth = record { at_true = refl; at_literal = λ z. refl; at_not = λ t. refl; at_and = λ t u. refl; at_or = λ t u. refl }

  module _ (q : List ℕ) (i : ℕ) where
    pub tells_second : (kind : Kind) → Two kind → entry_at q i ≡ some kind → (b : Bool) → Says q (i + 1) here b → decides kind b ≡ false → (s : Tree) →
        Spans q (i + 1) (Ok s) → (r : Result Bool Unsaid) → Tells q s.next here r → Tells q i here r
    tells_second kind two e b first h s spans (Ok d) second = says_second truth q i kind two e b first h s spans d second
    tells_second kind two e b first h s spans (Err u) second = tt

    pub tells_least : (d : Direction) (l n : ℕ) (r : Result Bool Unsaid) → entry_at q i ≡ some (AtLeast d l n) → Tells q (i + 1) (reaching R d l n x) r → Tells q i here r
    unfolding holds
    tells_least d l n (Ok b) e f = λ t k p. let o = parsed_least p e in f o.0 k o.2 ∙ sym (ap here o.1)
    tells_least d l n (Err u) e f = tt

-- ---- the links of an item, from the last to the first

-- so many neighbours were met at the links from place p on
abbrev pub Met : List ℕ → ℕ → Register → Direction → ℕ → ℕ → ℕ → ℕ → Type 0
Met q i R d l x met p = (t : Question) (k : ℕ) → Parsed q i t k → met + tally (λ k. leads d l (holds R t) x (link_of R k)) p ≡ neighbours R d l (holds R t) x

module _ (q : List ℕ) (i : ℕ) (R : Register) (d : Direction) (l x : ℕ) where
  pub met_none : (m p : ℕ) → m ≡ length R.links → Last R d x m p → Met q i R d l x 0 p
  met_none m p e s t k h =
      let below : tally (λ k. leads d l (holds R t) x (link_of R k)) p ≡ neighbours R d l (holds R t) x =
      sym (count_last R d l (holds R t) x m p s) ∙ ap (tally (λ k. leads d l (holds R t) x (link_of R k))) e ∙ sym (count_all R d l (holds R t) x) in
      omega (arith, below)

  -- the link before place p is asked
  module _ (met p : ℕ) (f : Met q i R d l x met p) (h : 1 ≤ p) (own : near d (link_of R (p - 1)) ≡ x) (b : Bool) (says : Says q i (leading R d l (p - 1)) b) where
    counted : (t : Question) (k : ℕ) → Parsed q i t k → met + cond b 1 0 + tally (λ k. leads d l (holds R t) x (link_of R k)) (p - 1) ≡ neighbours R d l (holds R t) x
    counted t k u =
        let one = count_own R d l (holds R t) x p h own in
        let same : cond {A = ℕ} b 1 0 ≡ cond (eqb (link_of R (p - 1)).label l && holds R t (far d (link_of R (p - 1)))) 1 0 =
        ap (λ (b : Bool). cond {A = ℕ} b 1 0) (says t k u) in
        omega (arith, f t k u, one, same)

    pub met_one : (j : ℕ) → Last R d x (p - 1) j → Met q i R d l x (met + cond b 1 0) j
    met_one j s t k u = omega (arith, counted t k u, count_last R d l (holds R t) x (p - 1) j s)

    pub met_enough : (n : ℕ) → met + cond b 1 0 ≡ n → Says q i (reaching R d l n x) true
    met_enough n g t k u = sym (le-leb n (neighbours R d l (holds R t) x) (omega (arith, counted t k u, g)))

  pub met_all : (n met p : ℕ) → met < n → p ≡ 0 → Met q i R d l x met p → Says q i (reaching R d l n x) false
  unfolding Rattle.meaning.specs.Count.sum
  met_all n met p g e f t k u =
      let all : met + 0 ≡ neighbours R d l (holds R t) x = rw e at f t k u in
      sym (lt-leb n (neighbours R d l (holds R t) x) (omega (arith, all)))

pub cond_most : (b : Bool) → cond {A = ℕ} b 1 0 ≤ 1
cond_most true = omega arith
cond_most false = omega arith

-- ---- one link

-- its label and the neighbour to which it leads are read
module _ (q : List ℕ) (i : ℕ) (R : Register) (d : Direction) (l k a y : ℕ) (Label-is : a ≡ (link_of R k).label) (far-is : y ≡ far d (link_of R k)) where
  pub leads_there : a ≡ l → (b : Bool) → Says q i (λ t. holds R t y) b → Says q i (leading R d l k) b
  leads_there e b says t j p =
      says t j p
      ∙ ap (holds R t) far-is
      ∙ sym (ap (λ (b : Bool). b && holds R t (far d (link_of R k))) (eq-eqb (link_of R k).label l (sym Label-is ∙ e)))
