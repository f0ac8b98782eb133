-- What each step of judging links comes to, over lists of bytes: the link at hand, and the links passed. Leans on theory's laws of
-- tests over a list.
use mathlib.Core.Path.{◌≡◌, refl, sym, ◌∙◌}
use mathlib.Core.Bool.{Bool, true, false, ◌&&◌, and-false}
use mathlib.Core.List.{List}
use Prim.Native.Nat.{ℕ, ◌+◌, ◌*◌, ◌/◌, ◌%◌, ◌≤◌, ◌<◌}
use native.Mathlib.Omega.{arith}
use native.Mathlib.Numerals.{add-one}
use borrow.Author.Tests.{lt-ltb, le-ltb, le-leb, lt-leb, ltb-true, ltb-false}
use lib.Dec.{leb, ltb}
use Rattle.std.specs.Prelude.{min}
use Rattle.meaning.specs.Count.{all, tab}
use Rattle.meaning.specs.Register.{Link}
use Rattle.meaning.specs.WellFormed.{link_in, link_key}
use Rattle.meaning.specs.Bytes.{num2}
use Rattle.meaning.specs.RegisterFile.{link_at}
use Rattle.theory.proofs.CountLaws.{by_bool, by_eq, and_inv, past, all_yes, all_no, all_and, each_tab, ascends_tab}
use Rattle.links.specs.Order.{in_order, rest_in}

-- ---- the loop over the links

-- link k of those that stand from `at` on; it is in range and comes after the one before
abbrev placed : List ℕ → ℕ → ℕ → Link
placed b at k = link_at b (at + 6 * k)

unfoldable pub least_key : List ℕ → ℕ → ℕ → ℕ
least_key b at k = past (λ i. link_key (placed b at i)) k

unfoldable pub follows : List ℕ → ℕ → ℕ → ℕ → Bool
follows b at n k = link_in n (placed b at k) && leb (least_key b at k) (link_key (placed b at k))

module _ (b : List ℕ) (at n k : ℕ) where
  out_of_range : link_in n (placed b at k) ≡ false → follows b at n k ≡ false
  unfolding follows
  out_of_range e = rw e

  out_of_order : link_key (placed b at k) < least_key b at k → follows b at n k ≡ false
  unfolding follows
  out_of_order h = rw (lt-leb (least_key b at k) (link_key (placed b at k)) h, and-false)

  in_order_law : link_in n (placed b at k) ≡ true → least_key b at k ≤ link_key (placed b at k) → follows b at n k ≡ true
  unfolding follows
  in_order_law e h = rw (e, le-leb (least_key b at k) (link_key (placed b at k)) h)

module _ (b : List ℕ) (at : ℕ) where
  least_first : 0 ≡ least_key b at 0
  unfolding least_key past
  least_first = refl

  least_next : (k : ℕ) → link_key (placed b at k) + 1 ≡ least_key b at (k + 1)
  unfolding least_key past
  least_next k = rw (add-one k, add-one (link_key (placed b at k)))

  pub all_follow : (n m : ℕ) → all (follows b at n) m ≡ in_order n (tab (placed b at) m)
  unfolding in_order follows least_key
  all_follow n m =
      sym (all_and (λ k. link_in n (placed b at k)) (λ k. leb (past (λ i. link_key (placed b at i)) k) (link_key (placed b at k))) m)
      ∙ sym (rw (each_tab (link_in n) (placed b at) m, ascends_tab link_key (placed b at) m))

  pub none_follow : (n m : ℕ) → m ≡ 0 → true ≡ in_order n (tab (placed b at) m)
  none_follow n m e = sym (all_yes (follows b at n) m (λ i h. absurd (omega arith))) ∙ all_follow n m

-- ---- a link's range

and_out : (s t u : Bool) → t && u ≡ false → s && t && u ≡ false
and_out true t u e = e
and_out false t u e = refl

module _ (n rest : ℕ) where
  pub no_label : 16 ≤ rest / 65536 → false ≡ rest_in n rest
  unfolding rest_in
  no_label h = sym (rw (le-ltb (rest / 65536) 16 h))

  pub only_target : rest / 65536 < 16 → ltb (rest % 65536) n ≡ rest_in n rest
  unfolding rest_in
  only_target h = sym (rw (lt-ltb (rest / 65536) 16 h))

  -- with n or what no target reaches: what a label above 15 leaves is above it
  pub one_test : (bound : ℕ) → bound ≡ min n 65536 → ltb (rest % 65536 + rest / 1048576 * 1048576) bound ≡ rest_in n rest
  one_test bound e =
      let whole = rest % 65536 + rest / 1048576 * 1048576 in
      by_bool (ltb (rest / 65536) 16)
      (λ t.
      let l = ltb-true (rest / 65536) 16 t in
      by_bool (ltb (rest % 65536) n)
      (λ u. lt-ltb whole bound (omega (arith, l, e, ltb-true (rest % 65536) n u)) ∙ sym u ∙ only_target l)
      (λ u. le-ltb whole bound (omega (arith, l, e, ltb-false (rest % 65536) n u)) ∙ sym u ∙ only_target l))
      (λ t.
      let l = ltb-false (rest / 65536) 16 t in
      le-ltb whole bound (omega (arith, l, e)) ∙ no_label l)

module _ (n : ℕ) (a : Link) where
  no_source : n ≤ a.source → link_in n a ≡ false
  unfolding link_in
  no_source h = rw (le-ltb a.source n h)

  all_in : a.source < n → a.label < 16 → a.target < n → link_in n a ≡ true
  unfolding link_in
  all_in h k l = rw (lt-ltb a.source n h, lt-ltb a.label 16 k, lt-ltb a.target n l)

  -- label and target as one number
  module _ (rest : ℕ) (e : rest ≡ a.label * 65536 + a.target) (h : a.target < 65536) where
    label_of : rest / 65536 ≡ a.label
    label_of = omega arith

    target_of : rest % 65536 ≡ a.target
    target_of = omega arith

    rest_out : rest_in n rest ≡ false → link_in n a ≡ false
    unfolding rest_in link_in
    rest_out t = and_out (ltb a.source n) (ltb a.label 16) (ltb a.target n) (rw (label_of, target_of) at t)

    rest_in_law : rest_in n rest ≡ true → (a.label < 16) × (a.target < n)
    unfolding rest_in
    rest_in_law t =
        let p = and_inv (ltb a.label 16) (ltb a.target n) (rw (label_of, target_of) at t) in
        (ltb-true a.label 16 p.0, ltb-true a.target n p.1)

-- ---- the link at hand, and the links passed

-- what was read of link k
pub record Read (b : List ℕ) (at k source rest key : ℕ) : Type 0 where
  pub source_is : source ≡ (placed b at k).source
  pub rest_is : rest ≡ (placed b at k).label * 65536 + (placed b at k).target
  pub target_low : (placed b at k).target < 65536
  pub key_is : key ≡ link_key (placed b at k)

-- link i was passed, and is not after the one that has this key
pub record Passed (b : List ℕ) (at n i key : ℕ) : Type 0 where
  pub label_in : (placed b at i).label < 16
  pub target_in : (placed b at i).target < n
  pub after : least_key b at i ≤ link_key (placed b at i)
  pub below : link_key (placed b at i) ≤ key

pub record Hand (b : List ℕ) (at n k source rest key : ℕ) : Type 0 where
  pub read : Read b at k source rest key
  pub after : least_key b at k ≤ key
  pub passed : (i : ℕ) → i < k → Passed b at n i key

module _ (b : List ℕ) (at n : ℕ) where
  pub read_at : (k p source rest key : ℕ) → p ≡ at + 6 * k → source ≡ num2 b p → rest ≡ (link_at b p).label * 65536 + (link_at b p).target
      → (link_at b p).target < 65536 → key ≡ source * 4294967296 + rest → Read b at k source rest key
  unfolding link_at link_key
  read_at k p source rest key e s r t q =
      record {
        source_is = rw (← e) s;
        rest_is = rw (← e) r;
        target_low = rw (← e) t;
        key_is = rw (← e) (omega arith);
      }

  pub hand_first : (source rest key : ℕ) → Read b at 0 source rest key → Hand b at n 0 source rest key
  hand_first source rest key r = record { read = r; after = omega (arith, least_first b at); passed = λ i h. absurd (omega arith) }

  module _ (k source rest key : ℕ) where
    pub hand_out : Read b at k source rest key → rest_in n rest ≡ false → follows b at n k ≡ false
    hand_out r t = out_of_range b at n k (rest_out n (placed b at k) rest r.rest_is r.target_low t)

    pub hand_beyond : Read b at k source rest key → n ≤ source → follows b at n k ≡ false
    hand_beyond r h = out_of_range b at n k (no_source n (placed b at k) (omega (arith, r.source_is)))

    -- the next link, after this one or not
    module _ (h : Hand b at n k source rest key) (next-source next-rest next : ℕ) (r : Read b at (k + 1) next-source next-rest next) where
      pub hand_falls : next ≤ key → follows b at n (k + 1) ≡ false
      hand_falls t = out_of_order b at n (k + 1) (omega (arith, r.key_is, h.read.key_is, least_next b at k))

      pub hand_next : rest_in n rest ≡ true → key < next → Hand b at n (k + 1) next-source next-rest next
      hand_next t u =
          let own = rest_in_law n (placed b at k) rest h.read.rest_is h.read.target_low t in
          record {
            read = r;
            after = omega (arith, h.read.key_is, least_next b at k);
            passed = λ i v.
                by_eq i k
                (λ e. rw e (record { label_in = own.0; target_in = own.1; after = omega (arith, h.read.key_is, h.after); below = omega (arith, h.read.key_is) }))
                (λ e.
                let p = h.passed i (omega arith) in
                record { label_in = p.label_in; target_in = p.target_in; after = p.after; below = omega (arith, p.below) });
          }

    -- the last link: the links before it have no greater source
    sources : (i : ℕ) → Hand b at n k source rest key → (placed b at k).label < 16 → source < n → i < k → (placed b at i).source < n
    unfolding link_key
    sources i h l u v = omega (arith, h.read.source_is, h.read.key_is, (h.passed i v).below, h.read.target_low)

    pub hand_last : (m : ℕ) → k + 1 ≡ m → Hand b at n k source rest key → source < n → rest_in n rest ≡ in_order n (tab (placed b at) m)
    hand_last m e h u =
        by_bool (rest_in n rest)
        (λ t.
        let own = rest_in_law n (placed b at k) rest h.read.rest_is h.read.target_low t in
        t
        ∙ sym (all_yes (follows b at n) m (λ i v.
        by_eq i k
        (λ q. rw q (in_order_law b at n k (all_in n (placed b at k) (omega (arith, h.read.source_is)) own.0 own.1) (omega (arith, h.read.key_is, h.after))))
        (λ q.
        let w : i < k = omega arith in
        let p = h.passed i w in
        in_order_law b at n i (all_in n (placed b at i) (sources i h own.0 u w) p.label_in p.target_in) p.after)))
        ∙ all_follow b at n m)
        (λ t. t ∙ sym (all_no (follows b at n) m k (omega arith) (hand_out h.read t)) ∙ all_follow b at n m)
