-- The conditions of "well formed" one after another: what a test that fails says of the whole, and the class links judged where they stand.
-- Leans on theory's ShapeLaws and on reader's Laws.
use mathlib.Core.Path.{◌≡◌, refl, ap, ◌∙◌}
use mathlib.Core.Bool.{Bool, true, false, ◌&&◌}
use mathlib.Core.List.{List}
use Prim.Native.Nat.{ℕ, ◌+◌, ◌*◌, ◌≤◌}
use native.Mathlib.Omega.{arith}
use lib.Dec.{ltb}
use lib.ListN.{length}
use Rattle.meaning.specs.Count.{tab, each, ascends}
use Rattle.meaning.specs.Summary.{Summary}
use Rattle.meaning.specs.WellFormed.{in_range, class_in, row_in, link_in, link_key, row_key, sizes, numbers, order, groups_used, rows_match, well_formed}
use Rattle.meaning.specs.Bytes.{num2}
use Rattle.meaning.specs.RegisterFile.{link_at}
use Rattle.meaning.specs.SummaryFile.{edges_offset, summary_in, exact}
use Rattle.theory.proofs.CountLaws.{by_bool, no, and_inv, and_yes, bool_iff}
use Rattle.theory.proofs.ShapeLaws.{well_parts, number_parts}
use Rattle.links.specs.Order.{in_order}
use Rattle.reader.proofs.Laws.{laid, edges_are}
use Rattle.header.proofs.File.{groups_few, not_exact, when_exact, sized_of}
use Rattle.matching.proofs.Laws.{keyed_no, keyed_as}

-- ---- a condition that fails

denied : {t u : Bool} → (t ≡ true → u ≡ true) → u ≡ false → t ≡ false
denied {t} {u} f e = by_bool t (λ h. no (f h) e) (λ h. h)

module _ (S : Summary) where
  pub no_range : in_range S.level S.near_cap S.class_cap ≡ false → well_formed S ≡ false
  no_range e = denied (λ w. (well_parts S w).0) e

  pub no_sizes : sizes S ≡ false → well_formed S ≡ false
  no_sizes e = denied (λ w. (well_parts S w).1) e

  pub no_classes : each (class_in S) S.classes && groups_used S ≡ false → well_formed S ≡ false
  no_classes e = denied (λ w. and_yes (number_parts S (well_parts S w).2).0 (well_parts S w).4) e

  pub no_rows : each (row_in S) S.rows && ascends row_key S.rows ≡ false → well_formed S ≡ false
  unfolding order
  no_rows e = denied (λ w. and_yes (number_parts S (well_parts S w).2).1 (and_inv (ascends row_key S.rows) (ascends link_key S.links) (well_parts S w).3).0) e

  pub no_links : each (link_in (length S.classes)) S.links && ascends link_key S.links ≡ false → well_formed S ≡ false
  unfolding order
  no_links e = denied (λ w. and_yes (number_parts S (well_parts S w).2).2 (and_inv (ascends row_key S.rows) (ascends link_key S.links) (well_parts S w).3).1) e

  pub no_map : each (λ k. ltb k (length S.classes)) S.map ≡ false → well_formed S ≡ false
  no_map e = denied (λ w. (number_parts S (well_parts S w).2).3) e

  -- all but the last
  module _ (classes : each (class_in S) S.classes && groups_used S ≡ true) (rows : each (row_in S) S.rows && ascends row_key S.rows ≡ true)
      (links : each (link_in (length S.classes)) S.links && ascends link_key S.links ≡ true) (map : each (λ k. ltb k (length S.classes)) S.map ≡ true) where
    pub are_numbers : numbers S ≡ true
    unfolding numbers
    are_numbers = and_yes (and_yes (and_yes of_classes of_rows) of_links) map
      where
        of_classes : each (class_in S) S.classes ≡ true
        of_classes = (and_inv (each (class_in S) S.classes) (groups_used S) classes).0

        of_rows : each (row_in S) S.rows ≡ true
        of_rows = (and_inv (each (row_in S) S.rows) (ascends row_key S.rows) rows).0

        of_links : each (link_in (length S.classes)) S.links ≡ true
        of_links = (and_inv (each (link_in (length S.classes)) S.links) (ascends link_key S.links) links).0

    pub by_match : in_range S.level S.near_cap S.class_cap ≡ true → sizes S ≡ true → rows_match S ≡ well_formed S
    unfolding well_formed order
    by_match r z =
        bool_iff (rows_match S) (well_formed S)
        (λ m. and_yes (and_yes (and_yes (and_yes (and_yes r z) are_numbers) (and_yes rows_rise links_rise)) used) m)
        (λ w. (well_parts S w).5)
      where
        used : groups_used S ≡ true
        used = (and_inv (each (class_in S) S.classes) (groups_used S) classes).1

        rows_rise : ascends row_key S.rows ≡ true
        rows_rise = (and_inv (each (row_in S) S.rows) (ascends row_key S.rows) rows).1

        links_rise : ascends link_key S.links ≡ true
        links_rise = (and_inv (each (link_in (length S.classes)) S.links) (ascends link_key S.links) links).1

-- what the first test says of the groups
pub groups_low : (S : Summary) → each (class_in S) S.classes && groups_used S ≡ true → length S.classes ≤ 1024 → S.groups ≤ 1024
groups_low S e h = omega (arith, groups_few S (and_inv (each (class_in S) S.classes) (groups_used S) e).1)

pub rows_ascend : (S : Summary) → each (row_in S) S.rows && ascends row_key S.rows ≡ true → ascends row_key S.rows ≡ true
rows_ascend S e = (and_inv (each (row_in S) S.rows) (ascends row_key S.rows) e).1

-- the ranges, from the three numbers that were tested
pub ranged : (S : Summary) {i µ ν : ℕ} {t : Bool} → i ≡ S.level → µ ≡ S.near_cap → ν ≡ S.class_cap → in_range i µ ν ≡ t → in_range S.level S.near_cap S.class_cap ≡ t
ranged S e f g h = rw (← e, ← f, ← g) h

-- ---- class links

links_are : (s : List ℕ) → tab (λ k. link_at s (edges_offset (num2 s 6) (num2 s 10) + 6 * k)) (num2 s 12) ≡ (summary_in s).links
unfolding summary_in
links_are s = refl

-- the class links, judged where they stand
pub links_judged : (s : List ℕ) (at m n : ℕ) → exact s ≡ true → at ≡ num2 s 20 → m ≡ length (summary_in s).links → n ≡ length (summary_in s).classes →
    in_order n (tab (λ k. link_at s (at + 6 * k)) m) ≡ each (link_in (length (summary_in s).classes)) (summary_in s).links && ascends link_key (summary_in s).links
unfolding in_order
links_judged s at m n e f g h = rw (h, ← made)
  where
    made : tab (λ k. link_at s (at + 6 * k)) m ≡ (summary_in s).links
    made =
        let o : at ≡ edges_offset (num2 s 6) (num2 s 10) = f ∙ (laid s e).links_from_law in
        ap (λ (v : ℕ). tab (λ k. link_at s (v + 6 * k)) m) o ∙ ap (tab (λ k. link_at s (edges_offset (num2 s 6) (num2 s 10) + 6 * k))) (g ∙ edges_are s) ∙ links_are s

pub room_for_links : (s : List ℕ) (at m : ℕ) → exact s ≡ true → at ≡ num2 s 20 → m ≡ length (summary_in s).links → at + 6 * m ≤ length s
room_for_links s at m e f g = let l = laid s e in omega (arith, edges_are s)

-- what the judges go by
pub ruleset class_links = (laid, links_judged, room_for_links)

pub ruleset parts = (no_sizes, no_range, ranged, sized_of, no_classes, no_rows, no_links, no_map, are_numbers, by_match, groups_low, rows_ascend, keyed_no, keyed_as)

pub ruleset file = (not_exact, when_exact)
