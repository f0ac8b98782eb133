-- The rows that the code writes are meaning's; and reading them. Leans on Words and Keys.
use mathlib.Core.Path.{◌≡◌, refl, sym, ap, ◌∙◌}
use mathlib.Core.List.{List, ◌++◌}
use Prim.Native.Nat.{ℕ, ◌+◌, ◌*◌, ◌≤◌, ◌<◌}
use native.Mathlib.Omega.{arith}
use lib.ListN.{length, length-append, get_or, drop, take, length-take, take-append-drop}
use lib.Seq.{take_at, get_or-append-add}
use Rattle.meaning.specs.Count.{tab, join}
use Rattle.meaning.specs.Register.{Register, link_of}
use Rattle.meaning.specs.declared.Direction.TheVariants.{Outgoing, Incoming}
use Rattle.meaning.specs.WellFormed.{way}
use Rattle.meaning.specs.Level.{class_count}
use Rattle.meaning.specs.Summary.{no_row}
use Rattle.meaning.specs.Condense.{rows_at, by}
use Rattle.meaning.specs.RegisterFile.{register_in}
use Rattle.theory.proofs.CountLaws.{length_tab, get_d_tab, tab_same, join_same}
use Rattle.order.specs.Sorted.{sorted}
use Rattle.order.proofs.Front.{tab_read}
use Rattle.rows.specs.Rows.{rows_of, start_of}
use Rattle.rows.proofs.Joined.{joined_next, joined_fits, joined_at}
use Rattle.rows.proofs.Laws.{often_sorted}
use Rattle.surround.specs.Surroundings.{OfClasses, key_of, all_keys, word_of, words, item_rows, item_start, RowsStand}
use Rattle.register.specs.Told.{OfRegister}
use Rattle.surround.proofs.Words.{words_length, words_at, item_words, words_any}
use Rattle.surround.proofs.Keys.{list_few, often_neighbours, neighbours_past}

-- ---- the rows that the code writes

module _ (b : List ℕ) (n m : ℕ) (o : OfRegister b n m) (cs : List ℕ) (c : OfClasses cs n) (long : length cs ≡ n) (µ : ℕ) where
  abbrev R : Register
  R = register_in b

  out : (k : ℕ) → k < m → get_or (all_keys R cs m) k 0 ≡ key_of Outgoing cs (link_of R k)
  out k h = tab_read (λ k. key_of Outgoing cs (link_of R k)) m k _ h

  in' : (k : ℕ) → k < m → get_or (all_keys R cs m) (m + k) 0 ≡ key_of Incoming cs (link_of R k)
  in' k h =
      let f : ℕ → ℕ = λ k. key_of Outgoing cs (link_of R k) in
      let g : ℕ → ℕ = λ k. key_of Incoming cs (link_of R k) in
      let e : m + k ≡ length (tab f m) + k = omega (arith, length_tab f m) in
      ap (λ (i : ℕ). get_or (all_keys R cs m) i 0) e ∙ get_or-append-add (tab f m) (tab g m) k 0 ∙ get_d_tab g 0 m k h

  all_size : 2 * m ≡ length (all_keys R cs m)
  all_size =
      let f : ℕ → ℕ = λ k. key_of Outgoing cs (link_of R k) in
      let g : ℕ → ℕ = λ k. key_of Incoming cs (link_of R k) in
      omega (arith, length-append (tab f m) (tab g m), length_tab f m, length_tab g m)

  module _ (s : List ℕ) (k : ℕ) (k_is : k ≡ 2 * m) (e : s ≡ sorted (all_keys R cs m) (2 * m)) where
    sorted_rows : (x : ℕ) → rows_of µ s k x ≡ item_rows R µ cs x
    unfolding item_rows
    sorted_rows x =
        item_words µ s k x R (by cs) (class_count cs) (list_few cs n c long)
        (λ d l q u g.
        rw k_is
        (often_sorted (all_keys R cs m) s (2 * m) all_size (rw all_size at e) (x * 32768 + (way d l * 1024 + q)) ∙ often_neighbours b n m o cs c l q x u g (all_keys R cs m) out in' d))
        (λ d l q u. neighbours_past b n m o cs c long d l q x u)

    pub rows_written : (r : ℕ) (rows old' : List ℕ) → r ≡ start_of µ s k n → rows ≡ join (rows_of µ s k) n ++ drop r old' →
        rows ≡ join (item_rows R µ cs) n ++ drop (item_start R µ cs n) old'
    unfolding start_of item_start
    rows_written r rows old' f g =
        let j : join (rows_of µ s k) n ≡ join (item_rows R µ cs) n = join_same _ _ n (λ x h. sorted_rows x) in
        g ∙ rw (f, j)

    pub starts_written : tab (start_of µ s k) (n + 1) ≡ tab (item_start R µ cs) (n + 1)
    unfolding start_of item_start
    starts_written = tab_same _ _ (n + 1) (λ x h. ap length (join_same _ _ x (λ y g. sorted_rows y)))

-- ---- reading them

module _ (R : Register) (µ : ℕ) (cs : List ℕ) (n : ℕ) (starts rows more rest : List ℕ)
    (e : starts ≡ tab (item_start R µ cs) (n + 1) ++ more) (f : rows ≡ join (item_rows R µ cs) n ++ rest) where
  pub starts_at : (x : ℕ) → x ≤ n → get_or starts x 0 ≡ item_start R µ cs x
  starts_at x h = ap (λ (l : List ℕ). get_or l x 0) e ∙ tab_read (item_start R µ cs) (n + 1) x more (omega arith)

  pub rows_size : (x : ℕ) → x < n → get_or starts (x + 1) 0 ≡ get_or starts x 0 + length (item_rows R µ cs x)
  unfolding item_start
  rows_size x h = starts_at (x + 1) (omega arith) ∙ joined_next (item_rows R µ cs) x ∙ ap (λ (k : ℕ). k + length (item_rows R µ cs x)) (sym (starts_at x (omega arith)))

  pub rows_read : (x j : ℕ) → x < n → j < length (item_rows R µ cs x) → get_or rows (get_or starts x 0 + j) 0 ≡ get_or (item_rows R µ cs x) j 0
  unfolding item_start
  rows_read x j h k =
      ap (λ (i : ℕ). get_or rows (i + j) 0) (starts_at x (omega arith))
      ∙ ap (λ (l : List ℕ). get_or l (length (join (item_rows R µ cs) x) + j) 0) f
      ∙ joined_at (item_rows R µ cs) 0 n x j rest h k

  pub rows_stand : RowsStand R µ cs n starts rows
  unfolding item_start
  rows_stand = record {
    starts_are = ap (take (n + 1)) e ∙ take_at (tab (item_start R µ cs) (n + 1)) more (n + 1) (length_tab (item_start R µ cs) (n + 1));
    rows_are = ap (take (length (join (item_rows R µ cs) n))) f ∙ take_at (join (item_rows R µ cs) n) rest _ refl;
  }

-- ---- what the rows left by a step are: for the writer of a summary, whatever the class k that item x stands for

module _ (R : Register) (µ : ℕ) (cs : List ℕ) (n : ℕ) (starts rows : List ℕ) (s : RowsStand R µ cs n starts rows) (k x : ℕ) (h : x < n) where
  any_class : words (rows_at µ R (by cs) (class_count cs) k x) ≡ item_rows R µ cs x
  unfolding item_rows
  any_class = words_any µ R (by cs) (class_count cs) k x

  same_size : length (rows_at µ R (by cs) (class_count cs) k x) ≡ length (item_rows R µ cs x)
  same_size = sym (words_length (rows_at µ R (by cs) (class_count cs) k x)) ∙ ap length any_class

  starts_part : starts ≡ tab (item_start R µ cs) (n + 1) ++ drop (n + 1) starts
  starts_part = sym (take-append-drop (n + 1) starts) ∙ ap (λ (l : List ℕ). l ++ drop (n + 1) starts) s.starts_are

  rows_part : rows ≡ join (item_rows R µ cs) n ++ drop (item_start R µ cs n) rows
  rows_part = sym (take-append-drop (item_start R µ cs n) rows) ∙ ap (λ (l : List ℕ). l ++ drop (item_start R µ cs n) rows) s.rows_are

  -- item x has as many words as rows, and word j is row j
  pub row_count : get_or starts (x + 1) 0 ≡ get_or starts x 0 + length (rows_at µ R (by cs) (class_count cs) k x)
  row_count = rows_size R µ cs n starts rows _ _ starts_part rows_part x h ∙ ap (λ (i : ℕ). get_or starts x 0 + i) (sym same_size)

  pub row_word : (j : ℕ) → j < length (rows_at µ R (by cs) (class_count cs) k x) →
      get_or rows (get_or starts x 0 + j) 0 ≡ word_of (get_or (rows_at µ R (by cs) (class_count cs) k x) j no_row)
  row_word j u =
      rows_read R µ cs n starts rows _ _ starts_part rows_part x j h (omega (arith, same_size))
      ∙ ap (λ (l : List ℕ). get_or l j 0) (sym any_class)
      ∙ words_at (rows_at µ R (by cs) (class_count cs) k x) j u

  -- and all its words stand within the array
  pub row_within : get_or starts (x + 1) 0 ≤ length rows
  unfolding item_start
  row_within =
      omega (
        arith,
        starts_at R µ cs n starts rows _ _ starts_part rows_part (x + 1) (omega arith),
        joined_fits (item_rows R µ cs) n x h,
        ap length s.rows_are,
        length-take (length (join (item_rows R µ cs) n)) rows,
      )
