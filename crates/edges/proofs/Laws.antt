-- The class links of keys in order are the class links of the summary: they ascend, are in range, and join what the register's links
-- join. Then one turn of the loop that writes them. Leans on theory's `links_one` and on order's `sorted`.
use mathlib.Core.Path.{◌≡◌, refl, sym, ap, ◌∙◌}
use mathlib.Core.Bool.{Bool, true, false, cond, ◌||◌, or-false, or_assoc, or_comm, or_self_left}
use mathlib.Core.List.{List, [], ◌∷◌, ◌++◌, append_assoc, append-nil}
use Prim.Native.Nat.{ℕ, zero, suc, ◌+◌, ◌*◌, ◌/◌, ◌%◌, ◌≤◌, ◌<◌, min, max}
use native.Mathlib.Omega.{arith}
use native.Mathlib.Numerals.{add-one}
use borrow.Author.Tests.{le-leb, lt-leb, leb-true, ltb-true, ltb-false}
use lib.Dec.{leb, ltb}
use lib.ListN.{length, get_or, set, take, drop, length-append, drop_of_length-le}
use lib.Seq.{sets, sets-eq, length-sets, take-suc, drop-cons, take_at, length-take-le}
use Rattle.meaning.specs.Count.{tab, any, ascends, Every}
use Rattle.meaning.specs.Register.{Link, Register, items, no_link, link_of, LinkFine, Fine}
use Rattle.meaning.specs.Level.{class_count}
use Rattle.meaning.specs.Summary.{joins}
use Rattle.meaning.specs.Condense.{by, links_from}
use Rattle.meaning.specs.WellFormed.{link_key}
use Rattle.theory.proofs.CountLaws.{by_bool, by_eq, no, bool_iff, length_tab, get_d_tab, any_at, every_join, every_at, any_append, any_some, any_join, any_joined}
use Rattle.theory.proofs.CountLaws.{Rising, rising_from, rising_to, rising_join, rising_ascends}
use Rattle.theory.proofs.MatchLaws.{joins_parts, joins_make}
use Rattle.theory.proofs.NumberLaws.{get_d_below}
use Rattle.theory.proofs.OneLaws.{BetweenFine, links_one}
use Rattle.theory.proofs.ShapeLaws.{accepted_fine, any_place}
use Rattle.meaning.specs.Bytes.{pack}
use Rattle.meaning.specs.RegisterFile.{register_in}
use Rattle.promise.proofs.Promise.{fault_accepted}
use Rattle.register.specs.Told.{OfRegister}
use Rattle.order.specs.Sorted.{into, sorted, Ascends}
use Rattle.order.proofs.Laws.{sorted_ascends}
use Rattle.order.proofs.Front.{tab_read}
use Rattle.summary.specs.Numbers.{edge_numbers}
use Rattle.edges.specs.Keys.{class_links, key_of, unkeyed, distinct}

-- ---- a sorted list has the members of the list

or_swap : (s t u : Bool) → s || (t || u) ≡ t || (s || u)
or_swap s t u = sym (or_assoc s t u) ∙ ap (λ (b : Bool). b || u) (or_comm s t) ∙ or_assoc t s u

module _ (p : ℕ → Bool) where
  any_into : (x : ℕ) (l : List ℕ) → any p (into x l) ≡ p x || any p l
  unfolding into any
  any_into x [] = refl
  any_into x (y ∷ l) =
      by_bool (ltb x y)
      (λ t.
      let h : x < y = ltb-true x y t in
      let a : min x y ≡ x = omega arith in
      let b : max x y ≡ y = omega arith in
      rw (any_into (max x y) l, a, b))
      (λ t.
      let h : y ≤ x = ltb-false x y t in
      let a : min x y ≡ y = omega arith in
      let b : max x y ≡ x = omega arith in
      rw (any_into (max x y) l, a, b) (or_swap (p y) (p x) (any p l)))

  any_sorted : (l : List ℕ) (n : ℕ) → n ≤ length l → any p (sorted l n) ≡ any p (take n l)
  unfolding sorted any
  any_sorted l zero h = refl
  any_sorted l (suc n) h =
      let e : n < length l = omega arith in
      rw (take-suc l n 0 e, any_append p (take n l), any_into (get_or l n 0) (sorted l n), any_sorted l n (omega arith), or-false (p (get_or l n 0)))
      (or_comm (p (get_or l n 0)) (any p (take n l)))

module _ (P : ℕ → Type 0) where
  every_into : (x : ℕ) (l : List ℕ) → P x → Every P l → Every P (into x l)
  unfolding into Every
  every_into x [] h e = (h, tt)
  every_into x (y ∷ l) h e =
      by_bool (ltb x y)
      (λ t.
      let u : x < y = ltb-true x y t in
      let a : min x y ≡ x = omega arith in
      let b : max x y ≡ y = omega arith in
      (rw a h, every_into (max x y) l (rw b e.0) e.1))
      (λ t.
      let u : y ≤ x = ltb-false x y t in
      let a : min x y ≡ y = omega arith in
      let b : max x y ≡ x = omega arith in
      (rw a e.0, every_into (max x y) l (rw b h) e.1))

  every_sorted : (l : List ℕ) (n : ℕ) → ((i : ℕ) → i < n → P (get_or l i 0)) → Every P (sorted l n)
  unfolding sorted Every
  every_sorted l zero h = tt
  every_sorted l (suc n) h = every_into (get_or l n 0) (sorted l n) (h n (omega arith)) (every_sorted l n (λ i u. h i (omega arith)))

-- ---- the class links of keys in order

-- the key of a link that has key v
abbrev ranked : ℕ → ℕ
ranked v = (v / 16384 * 65536 + v / 1024 % 16) * 65536 + v % 1024

ranked_up : (v w : ℕ) → v < w → ranked v < ranked w
ranked_up v w h =
    by_eq (v / 1024) (w / 1024)
    (λ e. omega arith)
    (λ e.
    let g : v / 1024 < w / 1024 = omega arith in
    by_eq (v / 16384) (w / 16384)
    (λ f. let k : v / 1024 % 16 < w / 1024 % 16 = omega arith in omega (arith, f, k))
    (λ f. let k : v / 16384 < w / 16384 = omega arith in omega (arith, k)))

-- what every key is, its class link is
every_distinct : (P : Link → Type 0) (least : ℕ) (s : List ℕ) → Every (λ v. P (unkeyed v)) s → Every P (distinct least s)
unfolding distinct Every
every_distinct P least [] h = tt
every_distinct P least (v ∷ s) h =
    by_bool (leb least v)
    (λ t. rw t (h.0, every_distinct P (suc v) s h.1))
    (λ t. rw t (every_distinct P least s h.1))

distinct_rises : (least lo : ℕ) (s : List ℕ) → ((v : ℕ) → least ≤ v → lo ≤ ranked v) → Every (λ v. v < 16777216) s → lo ≤ 4398046511104 →
    Rising link_key lo 4398046511104 (distinct least s)
unfolding distinct Every Rising link_key unkeyed
distinct_rises least lo [] g h k = k
distinct_rises least lo (v ∷ s) g h k =
    by_bool (leb least v)
    (λ t. rw t (g v (leb-true least v t), distinct_rises (suc v) (suc (ranked v)) s (λ w u. ranked_up v w u) h.1 (omega (arith, h.0))))
    (λ t. rw t (distinct_rises least lo s g h.1 k))

-- a key left out is the key that counted last: y
module _ (q : Link → Bool) where
  any_after : (y : ℕ) (s : List ℕ) → Ascends y s → q (unkeyed y) || any q (distinct (suc y) s) ≡ q (unkeyed y) || any (λ v. q (unkeyed v)) s
  unfolding distinct any
  any_after y [] h = refl
  any_after y (v ∷ s) h =
      by_eq y v
      (λ e.
      let t : leb (suc y) v ≡ false = lt-leb (suc y) v (omega arith) in
      let a : Ascends y s = rw e h.1 in
      rw (t, ← e) (any_after y s a ∙ sym (or_self_left (q (unkeyed y)) (any (λ v. q (unkeyed v)) s))))
      (λ e.
      let t : leb (suc y) v ≡ true = le-leb (suc y) v (omega (arith, h.0, e)) in
      rw t (ap (λ (b : Bool). q (unkeyed y) || b) (any_after v s h.1)))

  any_distinct : (y : ℕ) (s : List ℕ) → Ascends y s → any q (distinct 0 s) ≡ any (λ v. q (unkeyed v)) s
  unfolding distinct any
  any_distinct y [] h = refl
  any_distinct y (v ∷ s) h = rw (le-leb 0 v (omega arith)) (any_after v s h.1)

-- ---- a key tells its class link

key_tells : (a b c : ℕ) → b < 16 → c < 1024 → let v = (a * 16 + b) * 1024 + c in (v / 16384 ≡ a) × (v / 1024 % 16 ≡ b) × (v % 1024 ≡ c)
key_tells a b c h k = (omega arith, omega arith, omega arith)

-- what the class list says of an item
pub class_read : (classes : List ℕ) (x v : ℕ) → class_count classes ≤ 1024 → x < length classes → v ≡ x → (get_or classes v 0 ≡ by classes x) × (get_or classes v 0 < 1024)
class_read classes x v few u e =
    let a = get_d_below classes x u in
    let b : get_or classes v 0 ≡ by classes x = ap (λ (i : ℕ). get_or classes i 0) e in
    (b, omega arith)

-- the key of a link, of its parts as they are read
pub key_read : (cs : List ℕ) (a : Link) (x l y : ℕ) → x ≡ by cs a.source → l ≡ a.label → y ≡ by cs a.target → (x * 16 + l) * 1024 + y ≡ key_of cs a
unfolding key_of
key_read cs a x l y e f g = rw (e, f, g)

module _ (R : Register) (fine : Fine R) (cs : List ℕ) (long : length cs ≡ items R) (few : class_count cs ≤ 1024) where
  abbrev c : ℕ
  c = class_count cs

  ends_below : (a : Link) → LinkFine R a → (by cs a.source < c) × (a.label < 16) × (by cs a.target < c)
  ends_below a h = (get_d_below cs a.source (omega (arith, h.0)), h.1, get_d_below cs a.target (omega (arith, h.2)))

  key_small : (a : Link) → LinkFine R a → key_of cs a < 16777216
  unfolding key_of
  key_small a h = let e = ends_below a h in omega (arith, e.0, e.1, e.2)

  key_fine : (a : Link) → LinkFine R a → BetweenFine c (unkeyed (key_of cs a))
  unfolding key_of unkeyed
  key_fine a h =
      let e = ends_below a h in
      let t = key_tells (by cs a.source) a.label (by cs a.target) e.1 (omega (arith, e.2)) in
      (rw t.0 e.0, rw t.1 e.1, rw t.2 e.2)

  key_joins : (k l k' : ℕ) (a : Link) → LinkFine R a → joins (λ x. x) k l k' (unkeyed (key_of cs a)) ≡ joins (by cs) k l k' a
  unfolding key_of unkeyed joins
  key_joins k l k' a h =
      let e = ends_below a h in
      let t = key_tells (by cs a.source) a.label (by cs a.target) e.1 (omega (arith, e.2)) in
      rw (t.0, t.1, t.2)

  -- the keys of all links join what the links join
  keys_join : (k l k' : ℕ) → any (λ v. joins (λ x. x) k l k' (unkeyed v)) (tab (λ i. key_of cs (link_of R i)) (length R.links)) ≡ any (joins (by cs) k l k') R.links
  unfolding link_of Fine
  keys_join k l k' =
      let p : ℕ → Bool = λ v. joins (λ x. x) k l k' (unkeyed v) in
      let q : Link → Bool = joins (by cs) k l k' in
      let m : ℕ = length R.links in
      let keys : List ℕ = tab (λ i. key_of cs (link_of R i)) m in
      let long : length keys ≡ m = length_tab _ m in
      let same : (i : ℕ) → i < m → p (get_or keys i 0) ≡ q (link_of R i) =
      λ i h. ap p (get_d_tab _ 0 m i h) ∙ key_joins k l k' (link_of R i) (every_at (LinkFine R) no_link R.links fine i h) in
      bool_iff (any p keys) (any q R.links)
      (λ e. let r = any_place p 0 keys e in let h : r.0 < m = rw long at r.1 in any_at q no_link R.links r.0 h (sym (same r.0 h) ∙ r.2))
      (λ e. let r = any_place q no_link R.links e in any_at p 0 keys r.0 (rw long r.1) (same r.0 r.1 ∙ r.2))

  -- ---- the class links of the summary: in range, ascending, and joining the same

  one_fine : (k l k' : ℕ) (t : Bool) → k < c → l < 16 → k' < c → Every (BetweenFine c) (cond t (record { source = k; label = l; target = k' } ∷ []) [])
  unfolding Every
  one_fine k l k' true h g f = ((h, g, f), tt)
  one_fine k l k' false h g f = tt

  links_fine_law : Every (BetweenFine c) (class_links R cs)
  unfolding links_from
  links_fine_law =
      every_join (BetweenFine c) _ c (λ k u. every_join (BetweenFine c) _ 16 (λ l v. every_join (BetweenFine c) _ c (λ k' w.
      one_fine k l k' (any (joins (by cs) k l k') R.links) u v w)))

  one_rises : (k l k' : ℕ) (t : Bool) →
      Rising link_key ((k * 65536 + l) * 65536 + k') ((k * 65536 + l) * 65536 + suc k') (cond t (record { source = k; label = l; target = k' } ∷ []) [])
  unfolding Rising link_key
  one_rises k l k' true = (omega arith, omega arith)
  one_rises k l k' false = omega arith

  links_ascend : ascends link_key (class_links R cs) ≡ true
  unfolding links_from
  links_ascend =
      rising_ascends link_key (0 * 65536 * 65536) (c * 65536 * 65536) _
      (rising_join link_key (λ k. k * 65536 * 65536) _ c
      (λ k u.
      rising_from link_key ((k * 65536 + 0) * 65536) _ _ _ (omega arith)
      (rising_to link_key _ ((k * 65536 + 16) * 65536) _ _ (omega arith)
      (rising_join link_key (λ l. (k * 65536 + l) * 65536) _ 16
      (λ l v.
      rising_from link_key ((k * 65536 + l) * 65536 + 0) _ _ _ (omega arith)
      (rising_to link_key _ ((k * 65536 + l) * 65536 + c) _ _ (omega arith)
      (rising_join link_key (λ k'. (k * 65536 + l) * 65536 + k') _ c (λ k' w. one_rises k l k' (any (joins (by cs) k l k') R.links)))))))))

  joined : ℕ → ℕ → ℕ → Bool
  joined k l k' = any (joins (by cs) k l k') R.links

  one_joins : (k l k' x y z : ℕ) (t : Bool) → joined x y z ≡ t →
      any (joins (λ x. x) k l k') (cond t (record { source = x; label = y; target = z } ∷ []) []) ≡ true → joined k l k' ≡ true
  unfolding any
  one_joins k l k' x y z true f e =
      let w = joins_parts (λ x. x) k l k' (record { source = x; label = y; target = z }) (sym (or-false _) ∙ e) in
      rw (w.0, w.1, w.2) at f
  one_joins k l k' x y z false f e = no e refl

  own : (k l k' : ℕ) (t : Bool) → t ≡ true → any (joins (λ x. x) k l k') (cond t (record { source = k; label = l; target = k' } ∷ []) []) ≡ true
  unfolding any
  own k l k' t e = rw (e, joins_make (λ x. x) k l k' (record { source = k; label = l; target = k' }) refl refl refl)

  links_join : (k l k' : ℕ) → any (joins (λ x. x) k l k') (class_links R cs) ≡ any (joins (by cs) k l k') R.links
  unfolding links_from Fine joined
  links_join k l k' =
      bool_iff (any (joins (λ x. x) k l k') (class_links R cs)) (joined k l k')
      (λ e.
      let p = joins (λ x. x) k l k' in
      let r = any_join p (links_from R cs) c e in
      let s = any_join p _ 16 r.2 in
      let t = any_join p _ c s.2 in
      one_joins k l k' r.0 s.0 t.0 (joined r.0 s.0 t.0) refl t.2)
      (λ e.
      let p = joins (λ x. x) k l k' in
      let r = any_some (joins (by cs) k l k') R.links fine e in
      let w = joins_parts (by cs) k l k' r.0 r.2 in
      let b = ends_below r.0 r.1 in
      any_joined p (links_from R cs) c k (rw w.0 at b.0)
      (any_joined p _ 16 l (rw w.1 at b.1)
      (any_joined p _ c k' (rw w.2 at b.2) (own k l k' (joined k l k') e))))

  -- ---- the keys sorted

  module _ (a rest : List ℕ) (m : ℕ) (links_are : m ≡ length R.links) (keys : a ≡ tab (λ i. key_of cs (link_of R i)) m ++ rest) where
    key_at_law : (i : ℕ) → i < m → get_or a i 0 ≡ key_of cs (link_of R i)
    key_at_law i h = ap (λ (s : List ℕ). get_or s i 0) keys ∙ tab_read (λ i. key_of cs (link_of R i)) m i rest h

    link_fine : (i : ℕ) → i < m → LinkFine R (link_of R i)
    unfolding link_of Fine
    link_fine i h = every_at (LinkFine R) no_link R.links fine i (omega arith)

    pub sorted_small : Every (λ v. v < 16777216) (sorted a m)
    sorted_small = every_sorted (λ v. v < 16777216) a m (λ i h. rw (key_at_law i h) (key_small (link_of R i) (link_fine i h)))

    sorted_fine : Every (λ v. BetweenFine c (unkeyed v)) (sorted a m)
    sorted_fine = every_sorted (λ v. BetweenFine c (unkeyed v)) a m (λ i h. rw (key_at_law i h) (key_fine (link_of R i) (link_fine i h)))

    sorted_joins : (k l k' : ℕ) → any (joins (λ x. x) k l k') (distinct 0 (sorted a m)) ≡ any (joins (by cs) k l k') R.links
    sorted_joins k l k' =
        let p : ℕ → Bool = λ v. joins (λ x. x) k l k' (unkeyed v) in
        let n : length (tab (λ i. key_of cs (link_of R i)) m) ≡ m = length_tab (λ i. key_of cs (link_of R i)) m in
        let j : any p (tab (λ i. key_of cs (link_of R i)) m) ≡ any (joins (by cs) k l k') R.links = rw links_are (keys_join k l k') in
        any_distinct (joins (λ x. x) k l k') 0 (sorted a m) (sorted_ascends a m)
        ∙ any_sorted p a m (omega (arith, ap length keys, length-append (tab (λ i. key_of cs (link_of R i)) m) rest, n))
        ∙ ap (any p) (ap (take m) keys ∙ take_at _ rest m n)
        ∙ j

    -- so they are those of the summary
    pub class_links_law : distinct 0 (sorted a m) ≡ class_links R cs
    class_links_law =
        links_one c (omega arith) (distinct 0 (sorted a m)) (class_links R cs)
        (every_distinct (BetweenFine c) 0 (sorted a m) sorted_fine) links_fine_law
        (rising_ascends link_key 0 4398046511104 _ (distinct_rises 0 0 (sorted a m) (λ v h. omega arith) sorted_small (omega arith))) links_ascend
        (λ k l k'. sorted_joins k l k' ∙ sym (links_join k l k'))

-- ---- the same of a file: a is the keys, s is a in order

module _ (b classes : List ℕ) (n m : ℕ) (r : OfRegister b n m) (h : length classes ≡ n) (few : class_count classes ≤ 1024) (a s : List ℕ)
    (keys : a ≡ tab (λ k. key_of classes (link_of (register_in b) k)) m) (in_order : s ≡ sorted a (length a)) where
  fine : Fine (register_in b)
  fine = accepted_fine (register_in b) (fault_accepted b r.fine)

  long : length classes ≡ items (register_in b)
  long = h ∙ r.items_are

  keys' : a ≡ tab (λ k. key_of classes (link_of (register_in b) k)) m ++ []
  keys' = keys ∙ sym (append-nil _)

  so : s ≡ sorted a m
  so = in_order ∙ ap (sorted a) (ap length keys ∙ length_tab _ m)

  pub keys_small : Every (λ v. v < 16777216) s
  keys_small = rw so (sorted_small (register_in b) fine classes long few a [] m r.links_are keys')

  made : distinct 0 s ≡ class_links (register_in b) classes
  made = ap (distinct 0) so ∙ class_links_law (register_in b) fine classes long few a [] m r.links_are keys'

  pub made_all : (x : ℕ) (out : List ℕ) → (x ≡ length (distinct 0 s)) × (take (3 * x) out ≡ pack edge_numbers (distinct 0 s)) →
      (x ≡ length (class_links (register_in b) classes)) × (take (3 * x) out ≡ pack edge_numbers (class_links (register_in b) classes))
  made_all x out w = (w.0 ∙ ap length made, w.1 ∙ ap (pack edge_numbers) made)

-- ---- one turn of the loop that writes

pub put_three : (d : List ℕ) (at x y z : ℕ) → set (set (set d at x) (at + 1) y) (at + 2) z ≡ sets d at (x ∷ y ∷ z ∷ [])
put_three d at x y z = let e : at + 2 ≡ suc (suc at) = omega arith in rw (e, add-one at)

pub put_long : (d out' : List ℕ) (r v : ℕ) → out' ≡ sets d (3 * r) (edge_numbers (unkeyed v)) → length out' ≡ length d
put_long d out' r v e = ap length e ∙ length-sets d (3 * r) (edge_numbers (unkeyed v))

-- after i keys of s: r class links are written, and those still to come make them all
pub record Written (s out : List ℕ) (i least r : ℕ) : Type 0 where
  pub many : r + length (distinct least (drop i s)) ≡ length (distinct 0 s)
  pub numbers : take (3 * r) out ++ pack edge_numbers (distinct least (drop i s)) ≡ pack edge_numbers (distinct 0 s)

pub written_none : (s out : List ℕ) → Written s out 0 0 0
written_none s out = record { many = omega arith; numbers = refl }

module _ (s out : List ℕ) (i least r v : ℕ) (h : i < length s) (e : v ≡ get_or s i 0) (w : Written s out i least r) where
  -- the key is that of the class link before
  pub written_skip : v < least → Written s out (i + 1) least r
  unfolding distinct
  written_skip u =
      let t : leb least (get_or s i 0) ≡ false = lt-leb least (get_or s i 0) (omega arith) in
      let d : distinct least (drop i s) ≡ distinct least (drop (i + 1) s) = rw (drop-cons s i 0 h, t, add-one i) in
      record { many = rw d at w.many; numbers = rw d at w.numbers }

  -- the key is of a new class link, which is written
  pub written_next : (out' : List ℕ) → least ≤ v → 3 * r + 3 ≤ length out → out' ≡ sets out (3 * r) (edge_numbers (unkeyed v)) → Written s out' (i + 1) (v + 1) (r + 1)
  unfolding distinct pack edge_numbers
  written_next out' u room f =
      let t : leb least (get_or s i 0) ≡ true = le-leb least (get_or s i 0) (omega arith) in
      let d : distinct least (drop i s) ≡ unkeyed v ∷ distinct (v + 1) (drop (i + 1) s) = rw (drop-cons s i 0 h, t, add-one i, add-one v, e) in
      let n : length (take (3 * r) out ++ edge_numbers (unkeyed v)) ≡ 3 * (r + 1) =
      omega (arith, length-append (take (3 * r) out) (edge_numbers (unkeyed v)), length-take-le (3 * r) out (omega arith)) in
      let k : take (3 * (r + 1)) out' ≡ take (3 * r) out ++ edge_numbers (unkeyed v) =
      ap (take (3 * (r + 1))) (f ∙ sets-eq (edge_numbers (unkeyed v)) out (3 * r) room) ∙ take_at (take (3 * r) out ++ edge_numbers (unkeyed v)) _ (3 * (r + 1)) n in
      let many : r + length (unkeyed v ∷ distinct (v + 1) (drop (i + 1) s)) ≡ length (distinct 0 s) = rw d at w.many in
      let numbers : take (3 * r) out ++ pack edge_numbers (unkeyed v ∷ distinct (v + 1) (drop (i + 1) s)) ≡ pack edge_numbers (distinct 0 s) = rw d at w.numbers in
      record { many = omega arith; numbers = rw k (append_assoc (take (3 * r) out) (edge_numbers (unkeyed v)) _ ∙ numbers) }

-- after all keys
pub written_all : (s out : List ℕ) (i least r : ℕ) → length s ≤ i → Written s out i least r → (r ≡ length (distinct 0 s)) × (take (3 * r) out ≡ pack edge_numbers (distinct 0 s))
unfolding distinct pack
written_all s out i least r h w =
    let d : distinct least (drop i s) ≡ [] = ap (distinct least) (drop_of_length-le s h) in
    let many : r + 0 ≡ length (distinct 0 s) = rw d at w.many in
    let numbers : take (3 * r) out ++ [] ≡ pack edge_numbers (distinct 0 s) = rw d at w.numbers in
    (omega arith, sym (append-nil (take (3 * r) out)) ∙ numbers)
