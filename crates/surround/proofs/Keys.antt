-- A key stands among the links' keys as often as the item has such neighbours. Leans on theory's laws of neighbours and on promise's
-- Access for what an accepted register has.
use mathlib.Core.Path.{◌≡◌, refl, sym, ap, ◌∙◌}
use mathlib.Core.Bool.{Bool, false, cond, ◌&&◌}
use mathlib.Core.List.{List}
use Prim.Native.Nat.{ℕ, ◌+◌, ◌*◌, ◌≤◌, ◌<◌}
use native.Mathlib.Omega.{arith}
use borrow.Author.Tests.{eq-eqb, ne_eqb, eqb-true}
use lib.Dec.{eqb}
use lib.ListN.{length, get_or}
use Rattle.meaning.specs.Count.{tally}
use Rattle.meaning.specs.Register.{Link, no_link, link_of, LinkFine, Fine, same_way, near, far, leads, neighbours}
use Rattle.meaning.specs.declared.Direction.{Direction}
use Rattle.meaning.specs.declared.Direction.TheVariants.{Outgoing, Incoming}
use Rattle.meaning.specs.WellFormed.{way}
use Rattle.meaning.specs.Level.{class_count}
use Rattle.meaning.specs.RegisterFile.{register_in}
use Rattle.theory.proofs.CountLaws.{no, and_inv, and_yes, bool_iff, sum_zero, sum_split, tally_same, every_get_d}
use Rattle.theory.proofs.NeighbourLaws.{far_in, neighbours_places, neighbours_none}
use Rattle.theory.proofs.NumberLaws.{get_d_below, count_le}
use Rattle.theory.proofs.OneLaws.{way_tells}
use Rattle.promise.proofs.Access.{links_at, readable}
use Rattle.rows.specs.Rows.{hits, often}
use Rattle.surround.specs.Surroundings.{OfClasses, key_of}
use Rattle.register.specs.Told.{OfRegister}
use Rattle.surround.proofs.Words.{way_below}

-- ---- what an accepted register has

module _ (b : List ℕ) (n m : ℕ) (o : OfRegister b n m) where
  link_fine : (k : ℕ) → k < m → LinkFine (register_in b) (link_of (register_in b) k)
  link_fine k h = (readable b o.fine).ends k (omega (arith, o.links_are, links_at b))

  pub of_fine : Fine (register_in b)
  unfolding Fine link_of
  of_fine = every_get_d (LinkFine (register_in b)) no_link (register_in b).links (λ i u. link_fine i (omega (arith, o.links_are)))

-- ---- writing keys

-- the three parts of a key, as the accessors give them
pub key_made : (d : Direction) (cs : List ℕ) (a : Link) (x w i o : ℕ) → x ≡ near d a → w ≡ way d i → i ≡ a.label → o ≡ far d a →
    x * 32768 + w * 1024 + get_or cs o 0 ≡ key_of d cs a
unfolding key_of
key_made d cs a x w i o e f g h = rw (e, f, g, h)

-- ---- the class list that the code reads

module _ (cs : List ℕ) (n : ℕ) (c : OfClasses cs n) (long : length cs ≡ n) where
  pub list_few : class_count cs ≤ 1024
  list_few = count_le cs 1024 (λ x h. c.small x (omega arith))

  pub list_below : (x : ℕ) → x < n → get_or cs x 0 < class_count cs
  list_below x h = get_d_below cs x (omega arith)

-- ---- counting keys

way_apart : (d e : Direction) (l k : ℕ) → same_way d e ≡ false → l < 16 → k < 16 → way d l ≡ way e k → ⊥
unfolding same_way way
way_apart Outgoing Outgoing l k s u v h = no refl s
way_apart Outgoing Incoming l k s u v h = omega arith
way_apart Incoming Outgoing l k s u v h = omega arith
way_apart Incoming Incoming l k s u v h = no refl s

-- keys that are equal are so field by field
same_fields : (a x w w' g q : ℕ) → w < 32 → w' < 32 → g < 1024 → q < 1024 → a * 32768 + w * 1024 + g ≡ x * 32768 + (w' * 1024 + q) → (a ≡ x) × (w ≡ w') × (g ≡ q)
same_fields a x w w' g q h h' u v e = (omega arith, omega arith, omega arith)

module _ (b : List ℕ) (n m : ℕ) (o : OfRegister b n m) (cs : List ℕ) (c : OfClasses cs n) where
  -- what link k is seen that way, its fields in range
  in_range_law : (d : Direction) (k : ℕ) → k < m →
      ((link_of (register_in b) k).label < 16) × (far d (link_of (register_in b) k) < n) × (get_or cs (far d (link_of (register_in b) k)) 0 < 1024)
  in_range_law d k h =
      let a = link_of (register_in b) k in
      let f = link_fine b n m o k h in
      let g : far d a < n = omega (arith, far_in (register_in b) d a f, o.items_are) in
      (f.1, g, c.small (far d a) g)

  module _ (l q x : ℕ) (lab : l < 16) (grp : q < 1024) where
    key_leads : (d : Direction) (k : ℕ) → k < m →
        eqb (key_of d cs (link_of (register_in b) k)) (x * 32768 + (way d l * 1024 + q)) ≡ leads d l (λ y. eqb (get_or cs y 0) q) x (link_of (register_in b) k)
    unfolding key_of leads
    key_leads d k h =
        let a = link_of (register_in b) k in
        let r = in_range_law d k h in
        bool_iff (eqb (near d a * 32768 + way d a.label * 1024 + get_or cs (far d a) 0) (x * 32768 + (way d l * 1024 + q)))
        (eqb (near d a) x && eqb a.label l && eqb (get_or cs (far d a) 0) q)
        (λ e.
        let f = same_fields (near d a) x (way d a.label) (way d l) (get_or cs (far d a) 0) q (way_below d a.label r.0) (way_below d l lab) r.2 grp (eqb-true _ _ e) in
        and_yes (and_yes (eq-eqb _ _ f.0) (eq-eqb _ _ (way_tells d d a.label l r.0 lab f.1).1)) (eq-eqb _ _ f.2))
        (λ e.
        let f = and_inv (eqb (near d a) x && eqb a.label l) (eqb (get_or cs (far d a) 0) q) e in
        let g = and_inv (eqb (near d a) x) (eqb a.label l) f.0 in
        eq-eqb _ _ (key_same (near d a) x d a.label l (get_or cs (far d a) 0) q (eqb-true _ _ g.0) (eqb-true _ _ g.1) (eqb-true _ _ f.1)))
      where
        key_same : (a x : ℕ) (d : Direction) (i l g q : ℕ) → a ≡ x → i ≡ l → g ≡ q → a * 32768 + way d i * 1024 + g ≡ x * 32768 + (way d l * 1024 + q)
        key_same a x d i l g q e f h = rw (e, f, h) (omega arith)

    key_other : (d e : Direction) (k : ℕ) → same_way d e ≡ false → k < m → eqb (key_of e cs (link_of (register_in b) k)) (x * 32768 + (way d l * 1024 + q)) ≡ false
    unfolding key_of
    key_other d e k s h =
        let a = link_of (register_in b) k in
        let r = in_range_law e k h in
        ne_eqb _ _
        (λ z.
        let f = same_fields (near e a) x (way e a.label) (way d l) (get_or cs (far e a) 0) q (way_below e a.label r.0) (way_below d l lab) r.2 grp z in
        way_apart d e l a.label s lab r.0 (sym f.1))

    part_own : (d : Direction) →
        tally (λ k. eqb (key_of d cs (link_of (register_in b) k)) (x * 32768 + (way d l * 1024 + q))) m ≡ neighbours (register_in b) d l (λ y. eqb (get_or cs y 0) q) x
    part_own d =
        tally_same _ _ m (λ k h. key_leads d k h)
        ∙ ap (tally (λ k. leads d l (λ y. eqb (get_or cs y 0) q) x (link_of (register_in b) k))) o.links_are
        ∙ sym (neighbours_places (register_in b) d l (λ y. eqb (get_or cs y 0) q) x)

    part_other : (d e : Direction) → same_way d e ≡ false → tally (λ k. eqb (key_of e cs (link_of (register_in b) k)) (x * 32768 + (way d l * 1024 + q))) m ≡ 0
    part_other d e s = sum_zero _ m (λ k h. ap (λ (t : Bool). cond {A = ℕ} t 1 0) (key_other d e k s h))

    -- both ways, the keys of the one before those of the other
    module _ (s : List ℕ) (out : (k : ℕ) → k < m → get_or s k 0 ≡ key_of Outgoing cs (link_of (register_in b) k))
        (in' : (k : ℕ) → k < m → get_or s (m + k) 0 ≡ key_of Incoming cs (link_of (register_in b) k)) where
      two_parts : (v : ℕ) → often s (2 * m) v ≡
          tally (λ k. eqb (key_of Outgoing cs (link_of (register_in b) k)) v) m + tally (λ k. eqb (key_of Incoming cs (link_of (register_in b) k)) v) m
      unfolding often hits
      two_parts v =
          let e : 2 * m ≡ m + m = omega arith in
          ap (tally (λ i. eqb (get_or s i 0) v)) e
          ∙ sum_split (λ i. cond (eqb (get_or s i 0) v) 1 0) m m
          ∙ rw (
            tally_same (λ i. eqb (get_or s i 0) v) (λ k. eqb (key_of Outgoing cs (link_of (register_in b) k)) v) m (λ k h. ap (λ (y : ℕ). eqb y v) (out k h)),
            tally_same (λ i. eqb (get_or s (m + i) 0) v) (λ k. eqb (key_of Incoming cs (link_of (register_in b) k)) v) m (λ k h. ap (λ (y : ℕ). eqb y v) (in' k h)),
          )

      pub often_neighbours : (d : Direction) →
          often s (2 * m) (x * 32768 + (way d l * 1024 + q)) ≡ neighbours (register_in b) d l (λ y. eqb (get_or cs y 0) q) x
      unfolding same_way
      often_neighbours Outgoing = omega (arith, two_parts (x * 32768 + (way Outgoing l * 1024 + q)), part_own Outgoing, part_other Outgoing Incoming refl)
      often_neighbours Incoming = omega (arith, two_parts (x * 32768 + (way Incoming l * 1024 + q)), part_own Incoming, part_other Incoming Outgoing refl)

  -- no neighbour is in a class that there is not
  pub neighbours_past : length cs ≡ n → (d : Direction) (l q x : ℕ) → class_count cs ≤ q → neighbours (register_in b) d l (λ y. eqb (get_or cs y 0) q) x ≡ 0
  neighbours_past long d l q x h =
      neighbours_none (register_in b) (of_fine b n m o) d l x (λ y. eqb (get_or cs y 0) q)
      (λ y u. ne_eqb (get_or cs y 0) q (λ e. omega (arith, list_below cs n c long y (omega (arith, o.items_are)))))
