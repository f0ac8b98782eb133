-- Neighbours are what is counted. `neighbours` counts links; in an accepted register "no link occurs twice", so they are as many as
-- the distinct items to which they lead. Leans on the strict order of its links.
use mathlib.Core.Path.{◌≡◌, refl, sym, ap, ◌∙◌}
use mathlib.Core.Bool.{Bool, true, false, cond, ◌&&◌}
use Prim.Native.Nat.{ℕ}
use borrow.Author.Tests.{eqb-true}
use lib.Dec.{eqb}
use Rattle.meaning.specs.Count.{tally, any}
use Rattle.meaning.specs.Register.{Link, Register, items, near, far, leads, neighbours}
use Rattle.meaning.specs.declared.Direction.{Direction}
use Rattle.meaning.specs.declared.Direction.TheVariants.{Outgoing, Incoming}
use Rattle.meaning.specs.WellFormed.{link_key, accepted}
use Rattle.theory.proofs.CountLaws.{sum_same, count_once}
use Rattle.theory.proofs.NeighbourLaws.{neighbours_parts, neighbours_group}
use Rattle.theory.proofs.ShapeLaws.{accepted_parts, accepted_fine}
use Rattle.theory.proofs.MatchLaws.{leads_parts}
use Rattle.theory.proofs.OneLaws.{link_key_law}

-- y is a neighbour of x that way, by that label: some link leads there
unfoldable pub linked : Register → Direction → ℕ → ℕ → ℕ → Bool
linked R d l x y = any (leads d l (λ z. eqb z y) x) R.links

-- two links that lead from x to y by one label have one key, seen either way
one_key : (d : Direction) (a b : Link) → near d a ≡ near d b → a.label ≡ b.label → far d a ≡ far d b → link_key a ≡ link_key b
unfolding near far
one_key Outgoing a b e f g = link_key_law a b (e, f, g)
one_key Incoming a b e f g = link_key_law a b (g, f, e)

-- so one link leads there or none does
once : (R : Register) → accepted R ≡ true → (d : Direction) (l x y : ℕ) → neighbours R d l (λ z. eqb z y) x ≡ cond (linked R d l x y) 1 0
unfolding neighbours linked
once R a d l x y =
    count_once link_key (leads d l (λ z. eqb z y) x) R.links (accepted_parts R a).3
    (λ u v e f.
    let s = leads_parts d l (λ z. eqb z y) x u e in
    let t = leads_parts d l (λ z. eqb z y) x v f in
    one_key d u v (s.0 ∙ sym t.0) (s.1 ∙ sym t.1) (eqb-true _ y s.2 ∙ sym (eqb-true _ y t.2)))

-- The neighbours that pass are the items, each counted once, to which some link leads and that pass
pub neighbours_distinct : (R : Register) → accepted R ≡ true → (d : Direction) (l : ℕ) (p : ℕ → Bool) (x : ℕ) →
    neighbours R d l p x ≡ tally (λ y. linked R d l x y && p y) (items R)
neighbours_distinct R a d l p x =
    let fine = accepted_fine R a in
    neighbours_parts R fine d l x (λ y. y) (items R) (λ y u. u) p
    ∙ sum_same _ _ (items R)
    (λ y u.
    neighbours_group R fine d l x (λ y. y) (items R) (λ y u. u) p p y (λ z v e. ap p e)
    ∙ ap (λ (n : ℕ). cond (p y) n 0) (once R a d l x y)
    ∙ passes (linked R d l x y) (p y))
  where
    passes : (s t : Bool) → cond t (cond s 1 0) 0 ≡ cond {A = ℕ} (s && t) 1 0
    passes true t = refl
    passes false true = refl
    passes false false = refl
