-- Laws of rows: how often a key stands in a sorted list, and what a walk over the keys has done. Leans on Count's laws.
use mathlib.Core.Path.{◌≡◌, refl, sym, ap, ◌∙◌}
use mathlib.Core.Bool.{Bool, true, false, cond}
use mathlib.Core.List.{List, [], ◌∷◌, ◌++◌, append-nil, append_assoc}
use Prim.Native.Nat.{ℕ, zero, suc, ◌+◌, ◌-◌, ◌*◌, ◌≤◌, ◌<◌, min}
use native.Mathlib.Omega.{arith}
use native.Mathlib.Numerals.{add-one}
use borrow.Author.Tests.{eq-eqb, ne_eqb, eqb-true, eqb-false, ltb-true, ltb-false}
use lib.Dec.{eqb, ltb}
use lib.ListN.{take, length, get_or, drop, set, length-append}
use lib.Seq.{take-suc, take-length, set_at, drop-cons, append_snoc}
use Rattle.meaning.specs.Count.{sum, tally, join, total}
use Rattle.theory.proofs.CountLaws.{by_bool, eqb_sym, sum_zero, total_append}
use Rattle.order.specs.Sorted.{sorted, times}
use Rattle.order.proofs.Laws.{length_sorted, sorted_times}
use Rattle.rows.proofs.Joined.{join_next}
use Rattle.rows.specs.Rows.{hits, often, row_word, row_of, rows_of, start_of, Alone}

-- ---- how often a key stands in a sorted list

-- a test that the places from p to q pass, and no others
tally_block : (t : ℕ → Bool) (p q k : ℕ) → p ≤ q → ((i : ℕ) → i < k → i < p → t i ≡ false) → ((i : ℕ) → p ≤ i → i < q → t i ≡ true) →
    ((i : ℕ) → q ≤ i → i < k → t i ≡ false) → tally t k ≡ min k q - min k p
unfolding sum
tally_block t p q zero h a b c = omega arith
tally_block t p q (suc k) h a b c =
    let ih = tally_block t p q k h (λ i u v. a i (omega arith) v) b (λ i u v. c i u (omega arith)) in
    by_bool (ltb k p)
    (λ w. let u = ltb-true k p w in rw (a k (omega arith) u) (omega arith))
    (λ w.
    let u = ltb-false k p w in
    by_bool (ltb k q)
    (λ y. let z = ltb-true k q y in rw (b k u z) (omega arith))
    (λ y. let z = ltb-false k q y in rw (c k z (omega arith)) (omega arith)))

module _ (s : List ℕ) (k : ℕ) where
  pub often_run : (v p q : ℕ) → p ≤ q → q ≤ k → ((i : ℕ) → i < p → get_or s i 0 < v) → ((i : ℕ) → p ≤ i → i < q → get_or s i 0 ≡ v) →
      ((i : ℕ) → q ≤ i → i < k → v < get_or s i 0) → often s k v ≡ q - p
  unfolding often hits
  often_run v p q h g a b c =
      tally_block (hits s v) p q k h
      (λ i u w. ne_eqb (get_or s i 0) v (λ e. omega (arith, a i w)))
      (λ i u w. eq-eqb (get_or s i 0) v (b i u w))
      (λ i u w. ne_eqb (get_or s i 0) v (λ e. omega (arith, c i u w)))
      ∙ omega arith

  pub often_none : (v p : ℕ) → ((i : ℕ) → i < p → get_or s i 0 < v) → ((i : ℕ) → p ≤ i → i < k → v < get_or s i 0) → often s k v ≡ 0
  unfolding often hits
  often_none v p a c =
      sum_zero _ k
      (λ i h.
      ap (λ (t : Bool). cond t 1 0)
      (by_bool (ltb i p) (λ t. ne_eqb (get_or s i 0) v (λ e. omega (arith, a i (ltb-true i p t))))
      (λ t. ne_eqb (get_or s i 0) v (λ e. omega (arith, c i (ltb-false i p t) h)))))

-- ---- sorting the keys changes no count

often_times : (s : List ℕ) (v k : ℕ) → k ≤ length s → often s k v ≡ times v (take k s)
unfolding often sum hits total
often_times s v zero h = refl
often_times s v (suc k) h =
    rw (take-suc s k 0 (omega arith), total_append (λ x. cond (eqb v x) 1 0) (take k s), eqb_sym (get_or s k 0) v)
    (omega (arith, often_times s v k (omega arith)))

pub often_sorted : (old s : List ℕ) (k : ℕ) → k ≡ length old → s ≡ sorted old (length old) → (v : ℕ) → often s k v ≡ often old k v
often_sorted old s k h e v =
    let n : length s ≡ k = ap length e ∙ length_sorted old (length old) ∙ sym h in
    let f : s ≡ sorted old k = rw h e in
    often_times s v k (omega arith) ∙ ap (times v) ((rw n at (take-length s)) ∙ f) ∙ sorted_times v old k (omega arith) ∙ sym (often_times old v k (omega arith))

-- ---- the rows below a key

module _ (µ : ℕ) (s : List ℕ) (k : ℕ) where
  -- those of all keys below v, ascending
  unfoldable pub rows_below : ℕ → List ℕ
  rows_below v = join (row_of µ s k) v

  rows_split : (x m : ℕ) → rows_below (x * 32768 + m) ≡ rows_below (x * 32768) ++ join (λ e. row_of µ s k (x * 32768 + e)) m
  unfolding rows_below join
  rows_split x zero = let e : x * 32768 + 0 ≡ x * 32768 = omega arith in rw e (sym (append-nil (join (row_of µ s k) (x * 32768))))
  rows_split x (suc m) =
      let e : x * 32768 + suc m ≡ suc (x * 32768 + m) = omega arith in
      rw (e, rows_split x m) (append_assoc (join (row_of µ s k) (x * 32768)) (join (λ e. row_of µ s k (x * 32768 + e)) m) (row_of µ s k (x * 32768 + m)))

  rows_none : rows_below 0 ≡ join (rows_of µ s k) 0
  unfolding rows_below join
  rows_none = refl

  own : (x : ℕ) → rows_below (x * 32768) ++ join (λ e. row_of µ s k (x * 32768 + e)) 32768 ≡ rows_below (x * 32768) ++ rows_of µ s k x
  unfolding rows_of
  own x = refl

  -- the keys below an item's first are those of the items before it
  pub rows_items : (x : ℕ) → rows_below (x * 32768) ≡ join (rows_of µ s k) x
  rows_items zero = rows_none
  rows_items (suc x) =
      let e : suc x * 32768 ≡ x * 32768 + 32768 = omega arith in
      ap rows_below e ∙ rows_split x 32768 ∙ own x ∙ ap (λ (l : List ℕ). l ++ rows_of µ s k x) (rows_items x) ∙ sym (join_next (rows_of µ s k) x)

module _ (µ : ℕ) (s : List ℕ) (k : ℕ) where
  pub below_next : (v c : ℕ) → often s k v ≡ c → 0 < c → rows_below µ s k (v + 1) ≡ rows_below µ s k v ++ (row_word µ v c ∷ [])
  unfolding rows_below join row_of
  below_next v c e h = rw (add-one v, e, ne_eqb c 0 (λ q. omega arith))

  below_same : (v : ℕ) → often s k v ≡ 0 → rows_below µ s k (suc v) ≡ rows_below µ s k v
  unfolding rows_below join row_of
  below_same v e = rw e (append-nil (join (row_of µ s k) v))

  -- keys that do not occur give nothing
  pub below_gap : (low v : ℕ) → low ≤ v → ((u : ℕ) → low ≤ u → u < v → often s k u ≡ 0) → rows_below µ s k v ≡ rows_below µ s k low
  below_gap low zero h f = ap (rows_below µ s k) (omega arith)
  below_gap low (suc v) h f =
      by_bool (eqb low (suc v))
      (λ t. ap (rows_below µ s k) (sym (eqb-true low (suc v) t)))
      (λ t.
      let g : low ≤ v = omega (arith, eqb-false low (suc v) t) in
      below_same v (f v g (omega arith)) ∙ below_gap low v g (λ u a b. f u a (omega arith)))

-- ---- the walk

pub not_past : (p k v stop : ℕ) → (k ≤ p → v ≡ stop) → v < stop → p < k
not_past p k v stop f h = by_bool (ltb p k) (λ t. ltb-true p k t) (λ t. omega (arith, f (ltb-false p k t)))

-- all keys below low are done: they stand before place p, and gave j rows
pub record Done (µ : ℕ) (s : List ℕ) (k n x p j : ℕ) (old rows : List ℕ) (low : ℕ) : Type 0 where
  pub before : (i : ℕ) → i < p → get_or s i 0 < low
  pub after : (i : ℕ) → p ≤ i → i < k → low ≤ get_or s i 0
  pub bound : low ≤ x * 32768
  pub last : n < x → low ≡ n * 32768
  pub few : j ≤ p
  pub places : p ≤ k
  pub count : j ≡ length (rows_below µ s k low)
  pub wrote : rows ≡ rows_below µ s k low ++ drop j old

pub done_none : (µ : ℕ) (s : List ℕ) (k n : ℕ) (old : List ℕ) → Done µ s k n 0 0 0 old old 0
unfolding rows_below join
done_none µ s k n old =
    record { before = λ i h. absurd (omega arith); after = λ i h g. omega arith; bound = omega arith; last = λ h. absurd (omega arith); few = omega arith; places = omega arith; count = refl; wrote = refl }

module _ (µ : ℕ) (s : List ℕ) (k n x p j : ℕ) (old rows : List ℕ) (low : ℕ) (d : Done µ s k n x p j old rows low)
    (up : (a b : ℕ) → a ≤ b → b < k → get_or s a 0 ≤ get_or s b 0) where
  -- a run of v, from p to q, makes a row
  pub done_row : (v q w : ℕ) → p < k → v ≡ get_or s p 0 → v < x * 32768 → x ≤ n → Alone s k p q → k ≤ length old → w ≡ row_word µ v (q - p)
      → Done µ s k n x q (j + 1) old (set rows j w) (v + 1)
  done_row v q w h e lt xn al room we =
      let pq = al.some in
      let qk = al.within in
      let same = al.equal in
      let other = al.other in
      let lv : low ≤ v = omega (arith, d.after p (omega arith) h) in
      let past : (i : ℕ) → q ≤ i → i < k → v < get_or s i 0 = λ i a b. omega (arith, up q i a b, up p q (omega arith) (omega arith), other (omega arith)) in
      let gap : rows_below µ s k v ≡ rows_below µ s k low =
      below_gap µ s k low v lv (λ u a b. often_none s k u p (λ i g. omega (arith, d.before i g)) (λ i g m. omega (arith, up p i g m))) in
      let c : often s k v ≡ q - p =
      often_run s k v p q (omega arith) qk (λ i g. omega (arith, d.before i g)) (λ i g m. same i g m ∙ sym e) past in
      let next : rows_below µ s k (v + 1) ≡ rows_below µ s k low ++ (w ∷ []) = below_next µ s k v (q - p) c (omega arith) ∙ rw (gap, we) in
      let len : length (rows_below µ s k (v + 1)) ≡ j + 1 = ap length next ∙ length-append (rows_below µ s k low) (w ∷ []) ∙ ap (λ (m : ℕ). m + 1) (sym d.count) in
      record {
        before = λ i g. by_bool (ltb i p) (λ t. omega (arith, d.before i (ltb-true i p t))) (λ t. omega (arith, same i (ltb-false i p t) g));
        after = λ i g m. omega (arith, past i g m);
        bound = omega arith;
        last = λ g. absurd (omega arith);
        few = omega (arith, d.few);
        places = qk;
        count = sym len;
        wrote = ap (λ (l : List ℕ). set l j w) d.wrote
            ∙ rw (drop-cons old j 0 (omega (arith, d.few)), set_at (rows_below µ s k low) (get_or old j 0) (drop (suc j) old) w j (sym d.count), next, add-one j)
            (sym (append_snoc (rows_below µ s k low) w (drop (suc j) old)));
      }

  -- no key below the item's end is left
  pub done_item : x ≤ n → (p < k → x * 32768 ≤ get_or s p 0) → Done µ s k n (x + 1) p j old rows (x * 32768) × (j ≡ start_of µ s k x)
  unfolding start_of
  done_item xn h =
      let past : (i : ℕ) → p ≤ i → i < k → x * 32768 ≤ get_or s i 0 = λ i a b. omega (arith, up p i a b, h (omega arith)) in
      let gap : rows_below µ s k (x * 32768) ≡ rows_below µ s k low =
      below_gap µ s k low (x * 32768) d.bound (λ u a b. often_none s k u p (λ i g. omega (arith, d.before i g)) (λ i g m. omega (arith, past i g m))) in (
        record {
          before = λ i g. omega (arith, d.before i g, d.bound);
          after = past;
          bound = omega arith;
          last = λ g. let e : x ≡ n = omega arith in ap (λ (y : ℕ). y * 32768) e;
          few = d.few;
          places = d.places;
          count = d.count ∙ ap length (sym gap);
          wrote = d.wrote ∙ ap (λ (l : List ℕ). l ++ drop j old) (sym gap);
        },
        d.count ∙ ap length (sym gap ∙ rows_items µ s k x),
      )

-- past the last item
pub done_all : (µ : ℕ) (s : List ℕ) (k n x p j : ℕ) (old rows : List ℕ) (low : ℕ) → Done µ s k n x p j old rows low → n < x →
    (j ≡ start_of µ s k n) × (rows ≡ join (rows_of µ s k) n ++ drop j old)
unfolding start_of
done_all µ s k n x p j old rows low d h =
    let e : rows_below µ s k low ≡ join (rows_of µ s k) n = ap (rows_below µ s k) (d.last h) ∙ rows_items µ s k n in
    (d.count ∙ ap length e, d.wrote ∙ ap (λ (l : List ℕ). l ++ drop j old) e)
