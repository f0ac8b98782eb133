-- What an accepted register has, what its links' order and its header's counts come to where it is judged, and what the accessors read,
-- over lists of bytes. Leans on promise's Access.
use mathlib.Core.Path.{◌≡◌, sym, ap, ◌∙◌}
use mathlib.Core.List.{List}
use Prim.Native.Nat.{ℕ, ◌+◌, ◌*◌, ◌≤◌, ◌<◌}
use native.Mathlib.Omega.{arith}
use lib.ListN.{length}
use Rattle.meaning.specs.Count.{tab}
use Rattle.meaning.specs.Register.{Link, marks_of, link_of}
use Rattle.meaning.specs.Bytes.{num2, num4}
use Rattle.meaning.specs.RegisterFile.{links_offset, register_size, link_at, register_in, links_fine, fault}
use Rattle.promise.proofs.Access.{items_at, marks_at, links_at, link_at_law, readable}
use Rattle.links.specs.Order.{in_order}
use Rattle.register.specs.Accepted.{OfItems, OfRegister}

-- ---- what an accepted register has

pub few_items : (b : List ℕ) (n : ℕ) → OfItems b n → n ≤ 1024
few_items b n o = omega (arith, (readable b o.fine).few, o.items_are, items_at b)

pub limits : (b : List ℕ) (n m : ℕ) → OfRegister b n m → (n ≤ 1024) × (m ≤ 2048)
limits b n m o =
    let r = readable b o.fine in
    (omega (arith, r.few, o.items_are, items_at b), omega (arith, r.few_links, o.links_are, links_at b))

pub length_is : (b : List ℕ) (n m : ℕ) → OfRegister b n m → length b ≡ register_size n m
length_is b n m o = omega (arith, (readable b o.fine).long, o.items_are, o.links_are, items_at b, links_at b)

-- ---- the links

-- link k where it stands
abbrev pub placed : List ℕ → ℕ → ℕ → Link
placed b n k = link_at b (links_offset n + 6 * k)

pub links_in_order : (b : List ℕ) (n m : ℕ) → n ≡ num2 b 0 → m ≡ num2 b 2 → in_order n (tab (placed b n) m) ≡ links_fine (register_in b)
unfolding links_fine in_order register_in
links_in_order b n m e f = rw (e, f) (sym (rw (items_at b)))

-- the counts that stand in the header are those of the picture
pub counts_are : (b : List ℕ) (n m : ℕ) → fault b ≡ 0 → n ≡ num2 b 0 → m ≡ num2 b 2 → OfRegister b n m
counts_are b n m fine e f = record { fine = fine; items_are = e ∙ sym (items_at b); links_are = f ∙ sym (links_at b) }

-- ---- the accessors

module _ (b : List ℕ) (n m k : ℕ) (o : OfRegister b n m) (h : k < m) where
  n_is : n ≡ num2 b 0
  n_is = o.items_are ∙ items_at b

  k_below : k < num2 b 2
  k_below = omega (arith, o.links_are, links_at b)

  link_is : link_of (register_in b) k ≡ placed b n k
  link_is = link_at_law b k k_below ∙ ap (λ (m : ℕ). placed b m k) (sym n_is)

  -- v is what `field` hands back
  pub source_is : (v : ℕ) → v ≡ num2 b (links_offset n + 6 * k + 2 * 0) → (v ≡ (link_of (register_in b) k).source) × (v < n)
  unfolding link_at
  source_is v f =
      let z : links_offset n + 6 * k + 2 * 0 ≡ links_offset n + 6 * k = omega arith in
      let e : v ≡ (link_of (register_in b) k).source = f ∙ ap (num2 b) z ∙ sym (ap (λ (a : Link). a.source) link_is) in
      (e, omega (arith, e, ((readable b o.fine).ends k k_below).0, o.items_are))

  pub label_is : (v : ℕ) → v ≡ num2 b (links_offset n + 6 * k + 2 * 1) → (v ≡ (link_of (register_in b) k).label) × (v < 16)
  unfolding link_at
  label_is v f =
      let e : v ≡ (link_of (register_in b) k).label = f ∙ sym (ap (λ (a : Link). a.label) link_is) in
      (e, omega (arith, e, ((readable b o.fine).ends k k_below).1))

  pub target_is : (v : ℕ) → v ≡ num2 b (links_offset n + 6 * k + 2 * 2) → (v ≡ (link_of (register_in b) k).target) × (v < n)
  unfolding link_at
  target_is v f =
      let e : v ≡ (link_of (register_in b) k).target = f ∙ sym (ap (λ (a : Link). a.target) link_is) in
      (e, omega (arith, e, ((readable b o.fine).ends k k_below).2, o.items_are))

-- v is what stands at an item's marks
pub marks_is : (b : List ℕ) (n m x : ℕ) → OfRegister b n m → x < n → (v : ℕ) → v ≡ num4 b (12 + 4 * x) → v ≡ marks_of (register_in b) x
marks_is b n m x o h v e = e ∙ sym (marks_at b x (omega (arith, o.items_are, items_at b)))
