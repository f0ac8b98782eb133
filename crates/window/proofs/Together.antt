-- "the class's rows in that direction and label" stand together: from the first whose key is not below the least that such a row may have,
-- to the first whose key is above all of them. Leans on seek for what a search finds, and on matching's laws of keys.
use mathlib.Core.Path.{◌≡◌, sym, ap, ◌∙◌}
use mathlib.Core.Bool.{Bool, true, false, cond, ◌&&◌}
use mathlib.Core.List.{List}
use Prim.Native.Nat.{ℕ, ◌+◌, ◌-◌, ◌*◌, ◌≤◌, ◌<◌}
use native.Mathlib.Omega.{arith}
use borrow.Author.Tests.{eqb-true, eq-eqb, ltb-true, ltb-false}
use lib.Dec.{eqb, ltb}
use lib.ListN.{length, get_or}
use Rattle.meaning.specs.Count.{sum}
use Rattle.meaning.specs.Register.{same_way}
use Rattle.meaning.specs.declared.Direction.{Direction}
use Rattle.meaning.specs.Summary.{Row, Summary, no_row, row_of, row_for, counted}
use Rattle.meaning.specs.WellFormed.{way, row_key, well_formed}
use Rattle.meaning.specs.SummaryFile.{summary_in, well_formed_file}
use Rattle.theory.proofs.CountLaws.{by_bool, and_inv, and_yes, get_d_tab, length_tab, sum_same, sum_window, total_places}
use Rattle.theory.proofs.ShapeLaws.{well_parts, same_direction, own_direction}
use Rattle.theory.proofs.OneLaws.{way_tells, way_small}
use Rattle.seek.specs.Keys.{Stands}
use Rattle.header.specs.Keyed.{row_keys}
use Rattle.header.proofs.File.{well_file, groups_file}
use Rattle.matching.proofs.Match.{row_at}
use Rattle.window.specs.Own.{Own}

-- a row's class and way side by side, which its key begins with
begins : Row → ℕ
begins r = r.class * 65536 + way r.direction r.label

module _ (k : ℕ) (d : Direction) (l : ℕ) (label : l < 16) (r : Row) where
  begins_own : row_for k d l r ≡ true → begins r ≡ k * 65536 + way d l
  unfolding row_for begins
  begins_own e =
      let f = and_inv (eqb r.class k && same_way r.direction d) (eqb r.label l) e in
      let g = and_inv (eqb r.class k) (same_way r.direction d) f.0 in
      rw (eqb-true r.class k g.0, same_direction r.direction d g.1, eqb-true r.label l f.1)

  own_begins : r.label < 16 → begins r ≡ k * 65536 + way d l → row_for k d l r ≡ true
  unfolding row_for begins
  own_begins low e =
      let a = way_small r.direction r.label low in
      let b = way_small d l label in
      let same : way r.direction r.label ≡ way d l = omega arith in
      let w = way_tells r.direction d r.label l low label same in
      and_yes (and_yes (eq-eqb r.class k (omega arith)) (ap (λ (e : Direction). same_way e d) w.0 ∙ own_direction d)) (eq-eqb r.label l w.1)

module _ (s keys : List ℕ) (file : well_formed_file s ≡ true) (kept : keys ≡ row_keys (summary_in s)) where
  abbrev S : Summary
  S = summary_in s

  abbrev n : ℕ
  n = length S.rows

  well : well_formed S ≡ true
  well = (well_file s file).1

  keys_long : length keys ≡ n
  unfolding row_keys
  keys_long = ap length kept ∙ length_tab (λ j. row_key (row_of S j)) n

  key_at_law : (i : ℕ) → i < n → get_or keys i 0 ≡ row_key (row_of S i)
  unfolding row_keys
  key_at_law i h = rw kept (get_d_tab (λ j. row_key (row_of S j)) 0 n i h)

  -- it ends in a group
  key_parts : (i : ℕ) → i < n → (begins (row_of S i) * 65536 ≤ get_or keys i 0) × (get_or keys i 0 < begins (row_of S i) * 65536 + 65536)
  unfolding row_key begins
  key_parts i h =
      let e = key_at_law i h in
      let f = row_at S (well_parts S well).2 i h in
      (omega (arith, e), omega (arith, e, f.2, groups_file s file))

  module _ (k : ℕ) (d : Direction) (l : ℕ) (label : l < 16) (x low high : ℕ) (begin : x ≡ k * 65536 + way d l)
      (a : Stands keys (x * 65536) low) (b : Stands keys ((x + 1) * 65536) high) where
    other : (i : ℕ) → (begins (row_of S i) ≡ x → ⊥) → row_for k d l (row_of S i) ≡ false
    other i h = by_bool (row_for k d l (row_of S i)) (λ t. absurd (h (begins_own k d l label (row_of S i) t ∙ sym begin))) (λ t. t)

    pub window : Own S k d l low high
    window = record {
      rises = by_bool (ltb high low)
          (λ t. let h = ltb-true high low t in absurd (omega (arith, a.before high h, b.behind high (omega arith) (omega (arith, a.within)))))
          (λ t. ltb-false high low t);
      ends = omega (arith, b.within, keys_long);
      own = λ i u v.
          let h : i < n = omega (arith, b.within, keys_long) in
          let f = row_at S (well_parts S well).2 i h in
          own_begins k d l label (row_of S i) f.1 (omega (arith, a.behind i u (omega (arith, keys_long)), b.before i v, key_parts i h, begin));
      before = λ i u. other i (λ e. omega (arith, a.before i u, key_parts i (omega (arith, a.within, keys_long))));
      behind = λ i u v. other i (λ e. omega (arith, b.behind i u (omega (arith, keys_long)), key_parts i v));
    }

-- so a sum over the class's rows needs no others
pub counted_own : (S : Summary) (k : ℕ) (d : Direction) (l low high : ℕ) → Own S k d l low high → (p : ℕ → Bool) →
    counted S d l p k ≡ sum (λ i. cond (p (row_of S (low + i)).group) (row_of S (low + i)).count 0) (high - low)
unfolding counted row_of
counted_own S k d l low high w p =
    total_places adding no_row S.rows
    ∙ sum_window (λ i. adding (row_of S i)) (length S.rows) low high w.rises w.ends
    (λ i u. ap (λ (t : Bool). cond (t && p (row_of S i).group) (row_of S i).count 0) (w.before i u))
    (λ i u v. ap (λ (t : Bool). cond (t && p (row_of S i).group) (row_of S i).count 0) (w.behind i u v))
    ∙ sum_same _ _ (high - low) (λ i u. ap (λ (t : Bool). cond (t && p (row_of S (low + i)).group) (row_of S (low + i)).count 0) (w.own (low + i) (omega arith) (omega arith)))
  where
    adding : Row → ℕ
    adding r = cond (row_for k d l r && p r.group) r.count 0
