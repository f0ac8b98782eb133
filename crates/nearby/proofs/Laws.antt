-- What the links found from the last to the first say of a count of neighbours; and one turn of each loop that finds them, over
-- registers and lists. Leans on theory for counts by place, and on promise for what an accepted register has.
use mathlib.Core.Path.{◌≡◌, sym, ap, ◌∙◌}
use mathlib.Core.Bool.{Bool, false, cond, ◌&&◌}
use mathlib.Core.List.{List}
use Prim.Native.Nat.{ℕ, zero, suc, ◌+◌, ◌-◌, ◌≤◌, ◌<◌}
use native.Mathlib.Omega.{arith}
use borrow.Author.Tests.{ltb-true, ltb-false, eq-eqb, ne_eqb}
use lib.Dec.{eqb, ltb}
use lib.ListN.{length, get_or, set, length-set}
use lib.Seq.{get_or-set_same, get_or-set_other}
use Rattle.meaning.specs.Count.{sum, tally, each, ascends}
use Rattle.meaning.specs.Register.{Register, no_link, items, link_of, near, far, leads, neighbours}
use Rattle.meaning.specs.WellFormed.{link_in, link_key}
use Rattle.meaning.specs.declared.Direction.{Direction}
use Rattle.meaning.specs.declared.Direction.TheVariants.{Outgoing, Incoming}
use Rattle.theory.proofs.CountLaws.{by_bool, by_eq, and_inv, sum_split, sum_zero, ascends_at}
use Rattle.theory.proofs.NeighbourLaws.{neighbours_places}
use Rattle.meaning.specs.RegisterFile.{register_in, links_fine, fault}
use Rattle.promise.proofs.Access.{fault_none, items_at, links_at, readable}
use Rattle.register.specs.Accepted.{OfRegister}
use Rattle.nearby.specs.Nearby.{Last, UpTo, Parts}

-- ---- for a count of neighbours

module _ (R : Register) (d : Direction) (l : ℕ) (P : ℕ → Bool) where
  -- a link of another item counts nothing
  leads_not : (x k : ℕ) → eqb (near d (link_of R k)) x ≡ false → leads d l P x (link_of R k) ≡ false
  unfolding leads
  leads_not x k e = rw e

  -- no link between p and j counts
  pub count_last : (x j p : ℕ) → Last R d x j p → tally (λ k. leads d l P x (link_of R k)) j ≡ tally (λ k. leads d l P x (link_of R k)) p
  count_last x j p s =
      let f : ℕ → ℕ = λ k. cond (leads d l P x (link_of R k)) 1 0 in
      let h = s.low in
      let e : j ≡ p + (j - p) = omega arith in
      let none : sum (λ i. f (p + i)) (j - p) ≡ 0 =
      sum_zero (λ i. f (p + i)) (j - p)
      (λ i u. ap (λ (t : Bool). cond {A = ℕ} t 1 0) (leads_not x (p + i) (s.gap (p + i) (omega arith) (omega arith)))) in
      ap (sum f) e ∙ sum_split f p (j - p) ∙ omega (arith, none)

  -- what the link before p counts, where it is x's
  pub count_own : (x p : ℕ) → 1 ≤ p → near d (link_of R (p - 1)) ≡ x → tally (λ k. leads d l P x (link_of R k)) p
      ≡ tally (λ k. leads d l P x (link_of R k)) (p - 1) + cond (eqb (link_of R (p - 1)).label l && P (far d (link_of R (p - 1)))) 1 0
  unfolding sum leads
  count_own x zero h e = absurd (omega arith)
  count_own x (suc q) h e =
      let z : suc q - 1 ≡ q = omega arith in
      let f : near d (link_of R q) ≡ x = rw z at e in
      rw (z, eq-eqb (near d (link_of R q)) x f)

  -- all of them
  pub count_all : (x : ℕ) → neighbours R d l P x ≡ tally (λ k. leads d l P x (link_of R k)) (length R.links)
  count_all x = neighbours_places R d l P x

-- ---- the last link below a place, one place further

module _ (R : Register) (d : Direction) (x : ℕ) where
  -- link j is x's, and so the last below j + 1; or it is not, and the last is as it was
  pub last_own : (j : ℕ) → near d (link_of R j) ≡ x → Last R d x (j + 1) (j + 1)
  last_own j e =
      let z : j + 1 - 1 ≡ j = omega arith in
      record { low = omega arith; gap = λ k h u. absurd (omega arith); own = λ h. rw z e }

  pub last_other : (j p : ℕ) → (near d (link_of R j) ≡ x → ⊥) → Last R d x j p → Last R d x (j + 1) p
  last_other j p e s =
      record {
        low = omega (arith, s.low);
        gap = λ k h u. by_eq k j (λ f. rw f (ne_eqb (near d (link_of R j)) x e)) (λ f. s.gap k h (omega arith));
        own = s.own;
      }

-- for each item the last of the first k links
pub record Heads (R : Register) (d : Direction) (c : List ℕ) (k : ℕ) : Type 0 where
  pub so_far : (x : ℕ) → x < items R → Last R d x k (get_or c x 0)

module _ (R : Register) (d : Direction) (c : List ℕ) where
  -- link k is written at its near end
  pub heads_next : (k v : ℕ) → v ≡ near d (link_of R k) → v < length c → Heads R d c k → Heads R d (set c v (k + 1)) (k + 1)
  heads_next k v e h s =
      record {
        so_far = λ x u. by_eq x v
            (λ f. rw (f, get_or-set_same c v (k + 1) 0 h) (last_own R d v k (sym e)))
            (λ f. rw (get_or-set_other c v x (k + 1) 0 f) (last_other R d x k (get_or c x 0) (λ g. f (sym (e ∙ g))) (s.so_far x u)));
      }

  -- what is written behind all items is no item's
  pub heads_kept : (k i w : ℕ) → items R ≤ i → Heads R d c k → Heads R d (set c i w) k
  heads_kept k i w h s = record { so_far = λ x u. rw (get_or-set_other c i x w 0 (λ f. omega arith)) (s.so_far x u) }

-- the near end is the source, going out, and the target, coming in
pub source_near : (R : Register) (k v : ℕ) → v ≡ (link_of R k).source → v ≡ near Outgoing (link_of R k)
unfolding near
source_near R k v e = e

pub target_near : (R : Register) (k v : ℕ) → v ≡ (link_of R k).target → v ≡ near Incoming (link_of R k)
unfolding near
target_near R k v e = e

-- ---- and for each of the first k links the last before it with its target

pub record Nexts (R : Register) (c : List ℕ) (k : ℕ) : Type 0 where
  pub so_far : (i : ℕ) → i < k → Last R Incoming (link_of R i).target i (get_or c (1024 + i) 0)

module _ (R : Register) (c : List ℕ) where
  -- link k takes over what stood at its target, v, in whose place it is written
  nexts_next : (k v w : ℕ) → items R ≤ 1024 → v ≡ (link_of R k).target → v < items R → 1024 + k < length c → Heads R Incoming c k → Nexts R c k →
      Nexts R (set (set c (1024 + k) (get_or c v 0)) v w) (k + 1)
  nexts_next k v w few e h room heads s =
      let old = get_or c v 0 in
      let t = set c (1024 + k) old in
      record {
        so_far = λ i u. rw (get_or-set_other t v (1024 + i) w 0 (λ f. omega arith))
            (by_eq i k
            (λ f. rw (f, get_or-set_same c (1024 + k) old 0 room, ← e) (heads.so_far v h))
            (λ f. rw (get_or-set_other c (1024 + k) (1024 + i) old 0 (λ g. f (omega arith))) (s.so_far i (omega arith))));
      }

  -- so that all of it holds one link further
  pub ins_next : (k v : ℕ) → items R ≤ 1024 → length c ≡ 3072 → k < 2048 → v ≡ (link_of R k).target → v < items R → Heads R Incoming c k → Nexts R c k →
      Heads R Incoming (set (set c (1024 + k) (get_or c v 0)) v (k + 1)) (k + 1) × Nexts R (set (set c (1024 + k) (get_or c v 0)) v (k + 1)) (k + 1)
  ins_next k v few long h e u heads s =
      let t = set c (1024 + k) (get_or c v 0) in (
        heads_next R Incoming t k v (target_near R k v e) (omega (arith, length-set c (1024 + k) (get_or c v 0)))
            (heads_kept R Incoming c k (1024 + k) (get_or c v 0) (omega arith) heads),
        nexts_next k v (k + 1) few e u (omega arith) heads s,
      )

-- ---- links stand by source

pub sources_rise : (b : List ℕ) → fault b ≡ 0 → (i j : ℕ) → i ≤ j → j < length (register_in b).links →
    (link_of (register_in b) i).source ≤ (link_of (register_in b) j).source
unfolding links_fine link_of link_key
sources_rise b fine i j h u =
    let R = register_in b in
    let up = (and_inv (each (link_in (items R)) R.links) (ascends link_key R.links) (fault_none b fine).3).1 in
    let r = readable b fine in
    let e = r.ends j (rw (links_at b) at u) in
    by_eq i j
    (λ f. rw f (omega arith))
    (λ f. omega (arith, ascends_at link_key no_link R.links i j up (omega arith) u, e.1, e.2, r.few, items_at b))

module _ (b : List ℕ) (n m x : ℕ) (o : OfRegister b n m) where
  rise : (i j : ℕ) → i ≤ j → j < m → (link_of (register_in b) i).source ≤ (link_of (register_in b) j).source
  rise i j h u = sources_rise b o.fine i j h (omega (arith, o.links_are))

  -- ---- the search by halves

  pub parts_up : (low high p : ℕ) → p < m → (link_of (register_in b) p).source ≤ x → Parts (register_in b) x low high →
      Parts (register_in b) x (p + 1) high
  parts_up low high p h e s = record { less = λ k u. omega (arith, rise k p (omega arith) h); more = s.more }

  pub parts_down : (low high p : ℕ) → x < (link_of (register_in b) p).source → Parts (register_in b) x low high → Parts (register_in b) x low p
  parts_down low high p e s = record { less = s.less; more = λ k h u. omega (arith, rise p k h (omega (arith, o.links_are))) }

  -- ---- where no link below j has a later source

  -- the one before j is x's; or it is not, and all below j have an earlier source
  pub ending_own : (j : ℕ) → 1 ≤ j → (link_of (register_in b) (j - 1)).source ≡ x → Last (register_in b) Outgoing x j j
  unfolding near
  ending_own j h e = record { low = omega arith; gap = λ k u v. absurd (omega arith); own = λ u. e }

  pub ending_not : (j : ℕ) → j ≤ m → UpTo (register_in b) x j → (1 ≤ j → (link_of (register_in b) (j - 1)).source ≡ x → ⊥) →
      Last (register_in b) Outgoing x j 0
  unfolding near
  ending_not j u up e =
      record {
        low = omega arith;
        gap = λ k v w.
            let h : 1 ≤ j = omega arith in
            let below : (link_of (register_in b) (j - 1)).source < x = omega (arith, up (j - 1) (omega arith), e h) in
            ne_eqb (link_of (register_in b) k).source x (λ f. omega (arith, rise k (j - 1) (omega arith) (omega arith)));
        own = λ h. absurd (omega arith);
      }

  -- none from p on is x's, so that the last below p is the last of all
  pub last_behind : (p r : ℕ) → p ≤ m → Parts (register_in b) x p p → Last (register_in b) Outgoing x p r → Last (register_in b) Outgoing x m r
  unfolding near
  last_behind p r h s t =
      record {
        low = omega (arith, t.low);
        gap = λ k u v. by_bool (ltb k p)
            (λ e. t.gap k u (ltb-true k p e))
            (λ e. ne_eqb (link_of (register_in b) k).source x (λ f. omega (arith, s.more k (ltb-false k p e) (omega (arith, o.links_are)))));
        own = t.own;
      }

  -- below x's own link none has a later source
  pub own_up : (p : ℕ) → 1 ≤ p → p ≤ m → (link_of (register_in b) (p - 1)).source ≡ x → UpTo (register_in b) x (p - 1)
  own_up p h u e k v = omega (arith, rise k (p - 1) (omega arith) (omega arith))

-- ---- going down from place j: none from p on comes in at x

abbrev pub Passed : Register → ℕ → ℕ → ℕ → Type 0
Passed R x j p = (k : ℕ) → p ≤ k → k < j → (link_of R k).target ≡ x → ⊥

module _ (R : Register) (x j : ℕ) where
  pub passed_found : (k : ℕ) → k < j → (link_of R k).target ≡ x → Passed R x j (k + 1) → Last R Incoming x j (k + 1)
  unfolding near
  passed_found k h e s =
      let z : k + 1 - 1 ≡ k = omega arith in
      record { low = omega arith; gap = λ i u v. ne_eqb (link_of R i).target x (s i u v); own = λ u. rw z e }

  pub passed_all : Passed R x j 0 → Last R Incoming x j 0
  unfolding near
  passed_all s =
      record { low = omega arith; gap = λ k u v. ne_eqb (link_of R k).target x (s k u v); own = λ h. absurd (omega arith) }
