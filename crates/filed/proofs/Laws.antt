-- The words of an item's rows, taken apart, are the numbers of its rows; and one turn of the loop through the items, which finds each
-- class at its lowest item. Leans on alike for what the words say, on theory for searches and on wire for what writes leave.
use mathlib.Core.Path.{◌≡◌, refl, sym, ap, ◌∙◌}
use mathlib.Core.Bool.{Bool}
use mathlib.Core.List.{List, [], ◌∷◌, ◌++◌}
use Prim.Native.Nat.{ℕ, zero, suc, ◌+◌, ◌-◌, ◌*◌, ◌≤◌, ◌<◌}
use native.Mathlib.Omega.{arith}
use borrow.Author.Tests.{eq-eqb, ltb-true, ltb-false}
use lib.Dec.{eqb, ltb}
use lib.ListN.{length, get_or, set, take, drop, length-take}
use lib.Seq.{sets, sets-eq, take_at, get_or-take}
use Rattle.meaning.specs.Count.{join}
use Rattle.meaning.specs.Register.{Register}
use Rattle.meaning.specs.Summary.{Row, no_row}
use Rattle.meaning.specs.Level.{class_count, lowest_item, Numbering}
use Rattle.meaning.specs.Condense.{rows_at, by}
use Rattle.meaning.specs.Bytes.{pack}
use Rattle.theory.proofs.CountLaws.{by_bool, by_eq, seek_le, length_tab, get_d_tab, join_same, every_at}
use Rattle.theory.proofs.NumberLaws.{count_le}
use Rattle.wire.proofs.Sets.{then_record, length_records, pack_tab}
use Rattle.summary.specs.Numbers.{row_numbers}
use Rattle.summary.proofs.Laws.{pack_append}
use Rattle.rows.proofs.Joined.{joined_next, joined_fits}
use Rattle.surround.specs.Surroundings.{word_of, item_rows, item_start, RowsStand}
use Rattle.surround.proofs.Words.{RowFits, way_below, word_fields, rows_fit}
use Rattle.surround.proofs.Laws.{row_count, row_word}
use Rattle.lists.proofs.Laws.{places}
use Rattle.filed.specs.Copied.{word_numbers, copied, Words, class_rows, Given}

-- ---- writing

-- four numbers, one behind the other
pub four_written : (d : List ℕ) (at a b c e : ℕ) → set (set (set (set d at a) (at + 1) b) (at + 2) c) (at + 3) e ≡ sets d at (a ∷ b ∷ c ∷ e ∷ [])
four_written d at a b c e =
    let f : at + 1 ≡ suc at = omega arith in
    let g : at + 2 ≡ suc (suc at) = omega arith in
    let h : at + 3 ≡ suc (suc (suc at)) = omega arith in
    rw (f, g, h)

module _ (rows : List ℕ) (k from : ℕ) where
  copied_size : (m : ℕ) → length (copied rows k from m) ≡ 4 * m
  unfolding copied word_numbers
  copied_size m = length_records (λ j. word_numbers k (get_or rows (from + j) 0)) 4 (λ i. refl) m

  pub copied_none : (d : List ℕ) (at : ℕ) → d ≡ sets d at (copied rows k from 0)
  unfolding copied join
  copied_none d at = refl

  pub copied_next : (d : List ℕ) (at j : ℕ) {u v : List ℕ} → u ≡ sets d (4 * at) (copied rows k from j) →
      v ≡ sets u (4 * (at + j)) (word_numbers k (get_or rows (from + j) 0)) → v ≡ sets d (4 * at) (copied rows k from (j + 1))
  unfolding copied
  copied_next d at j e f =
      then_record (λ j. word_numbers k (get_or rows (from + j) 0)) d (4 * at) j (4 * (at + j)) (omega (arith, copied_size j)) e f

-- ---- the words of an item

-- the numbers of a row are read back from its word
row_back : (k : ℕ) (r : Row) → RowFits k r → word_numbers k (word_of r) ≡ row_numbers r
unfolding word_numbers row_numbers
row_back k r p = let f = word_fields k r p in rw (f.0, f.1, f.2, p.0)

word_small : (k : ℕ) (r : Row) → RowFits k r → word_of r < 524288
unfolding word_of
word_small k r p = let u = way_below r.direction r.label p.1 in omega (arith, p.2, p.3)

-- rows that stand there are no more than there is room for: of 4,096 words, at most so many rows
pub rows_long : (R : Register) (µ : ℕ) (gs : List ℕ) (n : ℕ) (starts rows : List ℕ) → RowsStand R µ gs n starts rows → item_start R µ gs n ≤ length rows
unfolding item_start
rows_long R µ gs n starts rows s = omega (arith, ap length s.rows_are, length-take (item_start R µ gs n) rows)

module _ (R : Register) (µ : ℕ) (gs classes starts rows : List ℕ) (g : Given R µ gs classes starts rows) where
  abbrev n : ℕ
  n = length classes

  starts_at : (x : ℕ) → x ≤ n → get_or starts x 0 ≡ item_start R µ gs x
  starts_at x h =
      sym (get_or-take (n + 1) starts x 0 (omega arith)) ∙ ap (λ (l : List ℕ). get_or l x 0) g.rows_stand.starts_are
      ∙ get_d_tab (item_start R µ gs) 0 (n + 1) x (omega arith)

  pub starts_long : n + 1 ≤ length starts
  starts_long = omega (arith, ap length g.rows_stand.starts_are, length-take (n + 1) starts, length_tab (item_start R µ gs) (n + 1))

  -- an item's words end where the next one's start, and so below the end of all
  pub rise : (x : ℕ) → x < n → get_or starts x 0 ≤ get_or starts (x + 1) 0
  rise x h = omega (arith, row_count R µ gs n starts rows g.rows_stand 0 x h)

  pub ends : (x : ℕ) → x ≤ n → (get_or starts x 0 ≤ 4096) × (get_or starts x 0 ≤ length rows)
  unfolding item_start
  ends x h =
      let most : item_start R µ gs x ≤ item_start R µ gs n =
      by_eq x n (λ e. rw e (omega arith)) (λ e. omega (arith, joined_fits (item_rows R µ gs) n x (omega arith), joined_next (item_rows R µ gs) x)) in
      (omega (arith, starts_at x h, g.few_rows), omega (arith, starts_at x h, rows_long R µ gs n starts rows g.rows_stand))

  module _ (k x : ℕ) (h : x < n) where
    abbrev L : List Row
    L = rows_at µ R (by gs) (class_count gs) k x

    fits : (j : ℕ) → j < length L → RowFits k (get_or L j no_row)
    fits j u = every_at (RowFits k) no_row L (rows_fit µ (omega (arith, g.cap_low)) R (by gs) (class_count gs) g.few_groups k x) j u

    so_many : get_or starts (x + 1) 0 - get_or starts x 0 ≡ length L
    so_many = omega (arith, row_count R µ gs n starts rows g.rows_stand k x h)

    pub words_stand : Words rows (get_or starts x 0) (get_or starts (x + 1) 0 - get_or starts x 0)
    words_stand = record {
      there = omega (arith, ends (x + 1) (omega arith), rise x h);
      small = λ j u.
          let v : j < length L = omega (arith, so_many) in
          rw (row_word R µ gs n starts rows g.rows_stand k x h j v) (word_small k (get_or L j no_row) (fits j v));
    }

    item_numbers : copied rows k (get_or starts x 0) (get_or starts (x + 1) 0 - get_or starts x 0) ≡ pack row_numbers L
    unfolding copied
    item_numbers =
        ap (join (λ j. word_numbers k (get_or rows (get_or starts x 0 + j) 0))) so_many
        ∙ join_same (λ j. word_numbers k (get_or rows (get_or starts x 0 + j) 0)) (λ j. row_numbers (get_or L j no_row)) (length L)
        (λ j u. ap (word_numbers k) (row_word R µ gs n starts rows g.rows_stand k x h j u) ∙ row_back k (get_or L j no_row) (fits j u))
        ∙ sym (pack_tab row_numbers (λ j. get_or L j no_row) (length L))
        ∙ ap (pack row_numbers) (places no_row L)

-- ---- the lowest item of a class

module _ (like : ℕ → ℕ → Bool) (n : ℕ) (cs : List ℕ) (C : Numbering like n cs) (x seen : ℕ) (h : x < n) (before : (y : ℕ) → y < x → get_or cs y 0 < seen) where
  at_most : (k : ℕ) → get_or cs x 0 ≡ k → lowest_item cs k ≤ x
  unfolding lowest_item
  at_most k e = seek_le (λ y. eqb (get_or cs y 0) k) 0 (length cs) x (omega arith) (eq-eqb (get_or cs x 0) k e)

  -- an item of a class not seen before is its lowest
  lowest_here : get_or cs x 0 ≡ seen → lowest_item cs seen ≡ x
  lowest_here e =
      let b = C.below x h in
      let r = C.right seen (omega arith) in
      by_bool (ltb (lowest_item cs seen) x)
      (λ t. absurd (omega (arith, before (lowest_item cs seen) (ltb-true _ _ t))))
      (λ t. omega (arith, at_most seen e, ltb-false (lowest_item cs seen) x t))

  -- any other item is of a class seen before
  seen_before : (get_or cs x 0 ≡ seen → ⊥) → get_or cs x 0 < seen
  seen_before e =
      let c = get_or cs x 0 in
      by_bool (ltb c seen)
      (λ t. ltb-true _ _ t)
      (λ t.
      let more : seen < c = by_eq c seen (λ f. absurd (e f)) (λ f. omega (arith, ltb-false c seen t)) in
      let b = C.below x h in
      let a = lowest_item cs seen in
      let r = C.right seen (omega arith) in
      by_bool (ltb a x)
      (λ u. absurd (omega (arith, before a (ltb-true _ _ u))))
      (λ u.
      by_eq a x
      (λ f. absurd (e (ap (λ (y : ℕ). get_or cs y 0) (sym f) ∙ r)))
      (λ f. C.order c seen b (omega arith) (omega (arith, at_most c refl, ltb-false a x u)))))

-- ---- the loop through the items

module _ (n : ℕ) (cs starts rows : List ℕ) where
  -- the numbers of class k's rows
  unfoldable pub of_class : ℕ → List ℕ
  of_class k = copied rows k (get_or starts (lowest_item cs k) 0) (get_or starts (lowest_item cs k + 1) 0 - get_or starts (lowest_item cs k) 0)

  -- the items below x are done: so many classes are seen and so many rows written over d
  pub record Under (d out : List ℕ) (x seen at : ℕ) : Type 0 where
    pub before : (y : ℕ) → y < x → get_or cs y 0 < seen
    pub few : seen ≤ class_count cs
    pub room : at ≤ get_or starts x 0
    pub size : length (join of_class seen) ≡ 4 * at
    pub written : out ≡ sets d 0 (join of_class seen)

  pub none_done : (d : List ℕ) → Under d d 0 0 0
  unfolding join
  none_done d = record { before = λ y h. absurd (omega arith); few = omega arith; room = omega arith; size = omega arith; written = refl }

  module _ (like : ℕ → ℕ → Bool) (C : Numbering like n cs) (d u : List ℕ) (x seen at : ℕ) (h : x < n) (up : get_or starts x 0 ≤ get_or starts (x + 1) 0) (w : Under d u x seen at) where
    first_done : (v : List ℕ) (k : ℕ) → k ≡ get_or cs x 0 → k ≡ seen →
        v ≡ sets u (4 * at) (copied rows k (get_or starts x 0) (get_or starts (x + 1) 0 - get_or starts x 0)) →
        Under d v (x + 1) (seen + 1) (at + (get_or starts (x + 1) 0 - get_or starts x 0))
    unfolding of_class
    first_done v k e f g =
        let low = lowest_here like n cs C x seen h w.before (sym e ∙ f) in
        let here : copied rows k (get_or starts x 0) (get_or starts (x + 1) 0 - get_or starts x 0) ≡ of_class seen = rw (low, f) in
        record {
          before = λ y i. by_eq y x (λ s. rw s (omega (arith, e, f))) (λ s. omega (arith, w.before y (omega arith)));
          few = omega (arith, C.below x h);
          room = omega (arith, w.room);
          size = omega (arith, joined_next of_class seen, w.size, ap length here, copied_size rows k (get_or starts x 0) (get_or starts (x + 1) 0 - get_or starts x 0));
          written = then_record of_class d 0 seen (4 * at) (omega (arith, w.size)) w.written (g ∙ ap (sets u (4 * at)) here);
        }

    other_done : (get_or cs x 0 ≡ seen → ⊥) → Under d u (x + 1) seen at
    other_done e = record {
      before = λ y i. by_eq y x (λ s. rw s (seen_before like n cs C x seen h w.before e)) (λ s. w.before y (omega arith));
      few = w.few;
      room = omega (arith, w.room);
      size = w.size;
      written = w.written;
    }

-- ---- a turn, and the end

pack_join : {A : Type 0} (put : A → List ℕ) (f : ℕ → List A) (n : ℕ) → pack put (join f n) ≡ join (λ k. pack put (f k)) n
unfolding pack join
pack_join put f zero = refl
pack_join put f (suc n) = pack_append put (join f n) (f n) ∙ ap (λ (s : List ℕ). s ++ pack put (f n)) (pack_join put f n)

pack_size : (s : List Row) → length (pack row_numbers s) ≡ 4 * length s
unfolding pack row_numbers
pack_size [] = omega arith
pack_size (r ∷ s) = omega (arith, pack_size s)

sets_front : (d p : List ℕ) → length p ≤ length d → take (length p) (sets d 0 p) ≡ p
sets_front d p h = ap (take (length p)) (sets-eq p d 0 (omega arith)) ∙ take_at p (drop (0 + length p) d) (length p) refl

module _ (R : Register) (µ : ℕ) (gs classes starts rows : List ℕ) (g : Given R µ gs classes starts rows) where
  abbrev m : ℕ
  m = length classes

  pub class_small : (x : ℕ) → x < m → get_or classes x 0 < 1024
  class_small x h = omega (arith, g.numbered.below x h, g.numbered.few, g.few)

  -- a turn of the loop: what it leaves is told by equations
  module _ (d u : List ℕ) (x seen at : ℕ) (h : x < m) (w : Under m classes starts rows d u x seen at) {v : List ℕ} {seen' at' : ℕ} where
    pub first_turn : {t : List ℕ} → get_or classes x 0 ≡ seen →
        t ≡ sets u (4 * at) (copied rows (get_or classes x 0) (get_or starts x 0) (get_or starts (x + 1) 0 - get_or starts x 0)) →
        v ≡ t → seen' ≡ seen + 1 → at' ≡ at + (get_or starts (x + 1) 0 - get_or starts x 0) → Under m classes starts rows d v (x + 1) seen' at'
    first_turn {t} e f a b c =
        rw (a, b, c)
        (first_done m classes starts rows g.like g.numbered d u x seen at h (rise R µ gs classes starts rows g x h) w t (get_or classes x 0) refl e f)

    pub other_turn : (get_or classes x 0 ≡ seen → ⊥) → v ≡ u → seen' ≡ seen → at' ≡ at → Under m classes starts rows d v (x + 1) seen' at'
    other_turn e a b c =
        rw (a, b, c)
        (other_done m classes starts rows g.like g.numbered d u x seen at h (rise R µ gs classes starts rows g x h) w e)

  all_numbers : join (of_class m classes starts rows) (class_count classes) ≡ pack row_numbers (class_rows R µ gs classes)
  unfolding of_class
  all_numbers =
      join_same (of_class m classes starts rows) (λ k. pack row_numbers (rows_at µ R (by gs) (class_count gs) k (lowest_item classes k))) (class_count classes)
      (λ k h. item_numbers R µ gs classes starts rows g k (lowest_item classes k) (g.numbered.used k h))
      ∙ sym (pack_join row_numbers (λ k. rows_at µ R (by gs) (class_count gs) k (lowest_item classes k)) (class_count classes))

  pub all_done : (d out : List ℕ) (seen at : ℕ) → length d ≡ 16384 → Under m classes starts rows d out m seen at →
      (at ≡ length (class_rows R µ gs classes)) × (take (4 * at) out ≡ pack row_numbers (class_rows R µ gs classes))
  all_done d out seen at long w =
      let most = count_le classes seen (λ x h. w.before x (omega (arith, g.numbered.long))) in
      let e : seen ≡ class_count classes = omega (arith, w.few) in
      let p : join (of_class m classes starts rows) seen ≡ pack row_numbers (class_rows R µ gs classes) = ap (join (of_class m classes starts rows)) e ∙ all_numbers in
      let room = ends R µ gs classes starts rows g m (omega arith) in (
        omega (arith, ap length p, w.size, pack_size (class_rows R µ gs classes)),
        ap (λ (i : ℕ). take i out) (sym w.size)
            ∙ ap (take (length (join (of_class m classes starts rows) seen))) w.written
            ∙ sets_front d (join (of_class m classes starts rows) seen) (omega (arith, w.size, w.room, room.0))
            ∙ p,
      )
