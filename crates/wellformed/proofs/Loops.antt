-- Rows and classes place by place, as loops test them. Leans on theory's CountLaws and on lists.
use mathlib.Core.Path.{◌≡◌, refl, sym, ap, subst, ◌∙◌}
use mathlib.Core.Bool.{Bool, true, false, ◌&&◌}
use mathlib.Core.List.{List}
use Prim.Native.Nat.{ℕ, suc, ◌+◌, ◌≤◌, ◌<◌}
use native.Mathlib.Omega.{arith}
use borrow.Author.Tests.{le-leb, lt-leb, eq-eqb, eqb-true}
use lib.Dec.{eqb, leb}
use lib.ListN.{length, get_or, take, set, replicate, get_or-replicate}
use lib.Seq.{get_or-set_same, get_or-set_other}
use Rattle.meaning.specs.Count.{all, each, ascends}
use Rattle.meaning.specs.Summary.{Summary, no_class, no_row, class_of, row_of}
use Rattle.meaning.specs.WellFormed.{row_key, class_in, row_in, groups_used}
use Rattle.theory.proofs.CountLaws.{by_bool, by_eq, no, and_inv, and_yes, bool_iff, all_yes, all_at, all_no, all_and, past, ascends_tab, any_at, tab_same}
use Rattle.theory.proofs.ShapeLaws.{any_place, class_group}
use Rattle.lists.proofs.Laws.{front, places, each_places}
use Rattle.header.proofs.File.{groups_few}
use Rattle.header.specs.Keyed.{row_keys}

-- ---- the rows

module _ (S : Summary) where
  abbrev pub key : ℕ → ℕ
  key j = row_key (row_of S j)

  -- row j is in range and comes after the one before
  unfoldable pub row_rises : ℕ → Bool
  row_rises j = row_in S (row_of S j) && leb (past key j) (key j)

  rows_by : all row_rises (length S.rows) ≡ each (row_in S) S.rows && ascends row_key S.rows
  unfolding row_rises row_of
  rows_by =
      sym (all_and (λ j. row_in S (row_of S j)) (λ j. leb (past key j) (key j)) (length S.rows))
      ∙ rw (← each_places (row_in S) no_row S.rows)
      (ap (λ (t : Bool). each (row_in S) S.rows && t)
      (sym (ascends_tab row_key (λ j. get_or S.rows j no_row) (length S.rows)) ∙ ap (ascends row_key) (places no_row S.rows)))

  pub row_out : (j : ℕ) → j < length S.rows → row_in S (row_of S j) ≡ false → false ≡ each (row_in S) S.rows && ascends row_key S.rows
  unfolding row_rises
  row_out j h e = sym (all_no row_rises (length S.rows) j h (rw e)) ∙ rows_by

  pub row_falls : (j : ℕ) → j < length S.rows → row_in S (row_of S j) ≡ true → key j < past key j → false ≡ each (row_in S) S.rows && ascends row_key S.rows
  unfolding row_rises
  row_falls j h e u = sym (all_no row_rises (length S.rows) j h (rw (e, lt-leb (past key j) (key j) u))) ∙ rows_by

  pub row_rises_law : (j : ℕ) → row_in S (row_of S j) ≡ true → past key j ≤ key j → row_rises j ≡ true
  unfolding row_rises
  row_rises_law j e u = and_yes e (le-leb (past key j) (key j) u)

  pub rows_all : ((j : ℕ) → j < length S.rows → row_rises j ≡ true) → true ≡ each (row_in S) S.rows && ascends row_key S.rows
  rows_all h = sym (all_yes row_rises (length S.rows) h) ∙ rows_by

  pub past_none : 0 ≡ past key 0
  unfolding past
  past_none = refl

  pub past_next : (j v : ℕ) → v ≡ key j → v + 1 ≡ past key (j + 1)
  unfolding past
  past_next j v e = let z : j + 1 ≡ suc j = omega arith in rw (z, e) (omega arith)

  pub keys_kept : (keys : List ℕ) → length S.rows ≤ length keys → ((i : ℕ) → i < length S.rows → get_or keys i 0 ≡ key i) → take (length S.rows) keys ≡ row_keys S
  unfolding row_keys
  keys_kept keys h e = front keys (length S.rows) h ∙ tab_same (λ i. get_or keys i 0) key (length S.rows) e

  pub key_set : (keys : List ℕ) (j v : ℕ) → j < length keys → v ≡ key j → ((i : ℕ) → i < j → get_or keys i 0 ≡ key i) → (i : ℕ) → i < j + 1 → get_or (set keys j v) i 0 ≡ key i
  key_set keys j v h e k i u =
      by_eq i j
      (λ q. rw q (get_or-set_same keys j v 0 h ∙ e))
      (λ q. get_or-set_other keys j i v 0 q ∙ k i (omega arith))

-- ---- the classes

module _ (S : Summary) where
  abbrev group : ℕ → ℕ
  group k = (class_of S k).group

  -- of the first k classes: a group is marked exactly when one of them lies in it
  pub record Marked (used : List Bool) (k : ℕ) : Type 0 where
    pub mine : (i : ℕ) → i < k → get_or used (group i) false ≡ true
    pub whose : (q : ℕ) → q < 1024 → get_or used q false ≡ true → (i : ℕ) × (i < k) × (group i ≡ q)

  pub none_marked : (used : List Bool) → ((q : ℕ) → q < 1024 → get_or used q false ≡ false) → Marked used 0
  none_marked used h = record { mine = λ i u. absurd (omega arith); whose = λ q u e. no e (h q u) }

  pub fresh_marked : Marked (replicate 1024 false) 0
  fresh_marked = none_marked (replicate 1024 false) (λ q h. get_or-replicate 1024 q false false h)

  pub one_marked : (used : List Bool) (k q : ℕ) → q ≡ group k → q < length used → Marked used k → Marked (set used q true) (k + 1)
  one_marked used k q e h m = record {
    mine = λ i u.
        by_eq (group i) q
        (λ f. rw f (get_or-set_same used q true false h))
        (λ f. get_or-set_other used q (group i) true false f ∙ m.mine i (by_eq i k (λ g. absurd (f (ap group g ∙ sym e))) (λ g. omega arith)));
    whose = λ p u t.
        by_eq p q
        (λ f. (k, omega arith, sym e ∙ sym f))
        (λ f. let r = m.whose p u (sym (get_or-set_other used q p true false f) ∙ t) in (r.0, omega (arith, r.1), r.2));
  }

  groups_by : (used : List Bool) → S.groups ≤ 1024 → Marked used (length S.classes) → all (λ q. get_or used q false) S.groups ≡ groups_used S
  unfolding groups_used class_of
  groups_by used few m =
      bool_iff _ _
      (λ e. all_yes _ S.groups (λ q u.
      let r = m.whose q (omega arith) (all_at (λ q. get_or used q false) S.groups q u e) in
      any_at (λ c. eqb c.group q) no_class S.classes r.0 r.1 (eq-eqb _ q r.2)))
      (λ e. all_yes _ S.groups (λ q u.
      let r = any_place (λ c. eqb c.group q) no_class S.classes (all_at _ S.groups q u e) in
      subst (λ (p : ℕ). get_or used p false ≡ true) (eqb-true _ q r.2) (m.mine r.0 r.1)))

  pub classes_by : (used : List Bool) (g k : ℕ) → g ≡ S.groups → k ≡ length S.classes → g ≤ 1024 → ((i : ℕ) → i < k → class_in S (class_of S i) ≡ true) → Marked used k →
      all (λ q. get_or used q false) g ≡ each (class_in S) S.classes && groups_used S
  unfolding class_of
  classes_by used g k e f few h m =
      ap (all (λ q. get_or used q false)) e ∙ groups_by used (rw (← e) few) (subst (λ (k : ℕ). Marked used k) f m)
      ∙ sym (ap (λ (t : Bool). t && groups_used S) (each_places (class_in S) no_class S.classes ∙ all_yes _ (length S.classes) (λ i u. h i (omega (arith, f)))))

  pub class_out : (k : ℕ) → k < length S.classes → class_in S (class_of S k) ≡ false → false ≡ each (class_in S) S.classes && groups_used S
  unfolding class_of
  class_out k h e = sym (ap (λ (t : Bool). t && groups_used S) (each_places (class_in S) no_class S.classes ∙ all_no _ (length S.classes) k h e))

  pub groups_many : length S.classes < S.groups → false ≡ each (class_in S) S.classes && groups_used S
  groups_many h =
      sym (by_bool (each (class_in S) S.classes && groups_used S)
      (λ e. absurd (omega (arith, groups_few S (and_inv (each (class_in S) S.classes) (groups_used S) e).1)))
      (λ e. e))

pub ruleset rows = (row_out, row_falls, row_rises_law, rows_all, past_none, past_next, keys_kept, key_set)

pub ruleset classes = (class_out, groups_many, class_group)
