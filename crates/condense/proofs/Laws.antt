-- The parts that the writer gathers are those of the summary of these groups and classes, within their limits. Leans on theory's limits,
-- on alike's levels and on summary's laws of parts.
use mathlib.Core.Path.{◌≡◌, refl, sym, subst, ◌∙◌}
use mathlib.Core.List.{List}
use Prim.Native.Nat.{ℕ, ◌*◌, ◌≤◌, pred}
use native.Mathlib.Omega.{arith}
use lib.ListN.{length, take}
use Rattle.meaning.specs.Count.{tab}
use Rattle.meaning.specs.Register.{Register}
use Rattle.meaning.specs.Level.{class_count, alike, Numbering}
use Rattle.meaning.specs.Condense.{class_for, summary_by, summary_of}
use Rattle.meaning.specs.Bytes.{put2, pack}
use Rattle.meaning.specs.RegisterFile.{register_in}
use Rattle.meaning.specs.SummaryFile.{summary_bytes}
use Rattle.theory.proofs.CountLaws.{length_tab}
use Rattle.theory.proofs.LimitLaws.{rows_most, links_most}
use Rattle.theory.proofs.ClassListLaws.{class_list_law}
use Rattle.register.specs.Told.{OfRegister}
use Rattle.register.proofs.Laws.{limits}
use Rattle.alike.specs.Step.{Reached}
use Rattle.surround.proofs.Keys.{of_fine}
use Rattle.summary.specs.Numbers.{numbers, head_of, head_numbers, class_fields, class_numbers, row_numbers, edge_numbers}
use Rattle.summary.proofs.Laws.{parts_bytes}
use Rattle.classes.specs.Counted.{Sorted}
use Rattle.filed.specs.Copied.{Given, class_rows}
use Rattle.filed.proofs.Laws.{rows_long}
use Rattle.edges.specs.Keys.{class_links}
use Rattle.condense.specs.Classed.{Classed}

-- ---- the parts

module _ {b : List ℕ} {n m µ g c : ℕ} {groups map starts words : List ℕ} (k : Classed b n m µ g c groups map starts words) where
  abbrev R : Register
  R = register_in b

  abbrev gs : List ℕ
  gs = groups

  abbrev cs : List ℕ
  cs = map

  pub few_items : n ≤ 1024
  few_items = (limits b n m k.register).0

  pub few_groups : g ≤ 1024
  few_groups = omega (arith, k.groups_are, k.few_groups, few_items)

  pub few_classes : c ≤ 1024
  few_classes = omega (arith, k.classes_are, k.numbered.few, k.register.items_are, few_items)

  classes_numbered : Numbering (alike R µ k.level) n cs
  classes_numbered = subst (λ (x : ℕ). Numbering (alike R µ k.level) x cs) (sym k.register.items_are) k.numbered

  pub map_long : length map ≡ n
  map_long = classes_numbered.long

  pub sorted : Sorted n groups map
  sorted =
      record {
        groups_there = k.groups_long;
        classes_there = classes_numbered.long;
        few = omega (arith, k.classes_are, few_classes);
        used = classes_numbered.used;
      }

  pub given : Given R µ gs map starts words
  given =
      let long : length map ≡ n = classes_numbered.long in
      record {
        cap_low = k.cap_low;
        few_groups = omega (arith, k.groups_are, few_groups);
        few = omega (arith, few_items);
        few_rows = rw long (omega (arith, rows_long R µ gs n starts words k.rows_stand, k.few_words));
        rows_stand = rw long k.rows_stand;
        like = alike R µ k.level;
        numbered = rw long classes_numbered;
      }

  -- what the writer of rows says of their number and of the numbers
  abbrev pub Rows : ℕ → List ℕ → Type 0
  Rows r out =
      (R : Register) (µ : ℕ) (gs : List ℕ) → Given R µ gs map starts words →
      (r ≡ length (class_rows R µ gs cs)) × (take (4 * r) out ≡ pack row_numbers (class_rows R µ gs cs))

  -- "r ≤ 2m", "e ≤ m"
  pub few_rows : length (class_rows R µ gs cs) ≤ 4096
  unfolding summary_by
  few_rows = omega (arith, rows_most µ 0 R (of_fine b n m k.register) k.level gs cs k.numbered 0, k.register.links_are, limits b n m k.register)

  pub few_links : length (class_links R cs) ≤ 2048
  unfolding summary_by
  few_links = omega (arith, links_most µ 0 R (of_fine b n m k.register) k.level gs cs k.numbered 0, k.register.links_are, limits b n m k.register)

  -- as many as the writers of rows and of class links say
  pub rows_fit : (r : ℕ) (out : List ℕ) → Rows r out → (r ≡ length (class_rows R µ gs cs)) × (take (4 * r) out ≡ pack row_numbers (class_rows R µ gs cs)) × (r ≤ 4096)
  rows_fit r out w = let e = w R µ gs given in (e.0, e.1, omega (arith, e, few_rows))

  -- the header's numbers from the counts
  pub head_is : (ν i r e : ℕ) {head : List ℕ} → r ≡ length (class_rows R µ gs cs) → e ≡ length (class_links R cs) →
      head ≡ head_of i µ ν c g r e n → head ≡ head_numbers (summary_by µ ν R gs cs i)
  unfolding head_numbers head_of summary_by
  head_is ν i r e hr he h =
      let lc : c ≡ length (tab (class_for ν R gs cs) (class_count cs)) = k.classes_are ∙ sym (length_tab (class_for ν R gs cs) (class_count cs)) in
      let lm : n ≡ length cs = sym map_long in
      rw (h, lc, lm, k.groups_are, hr, he)

  pub bytes_are : (ν i : ℕ) {head rows edges : List ℕ} (classes : List ℕ) → head ≡ head_numbers (summary_by µ ν R gs cs i) →
      take (class_fields * class_count cs) classes ≡ pack class_numbers (tab (class_for ν R gs cs) (class_count cs)) →
      rows ≡ pack row_numbers (class_rows R µ gs cs) → edges ≡ pack edge_numbers (class_links R cs) →
      pack put2 (numbers head (take (class_fields * c) classes) rows edges cs) ≡ summary_bytes (summary_by µ ν R gs cs i)
  unfolding summary_by
  bytes_are ν i classes h l o q = parts_bytes (summary_by µ ν R gs cs i) _ _ _ _ _ h (rw k.classes_are l) o q refl

-- ---- from the levels to the summary

module _ (b : List ℕ) (n m µ i ν : ℕ) (lower upper : List ℕ) (g c : ℕ) (starts words : List ℕ) (o : OfRegister b n m)
    (s : Reached (register_in b) µ n i lower upper g c starts words) where
  pub reached : summary_bytes (summary_by µ ν (register_in b) lower upper i) ≡ summary_bytes (summary_of i µ ν (register_in b))
  unfolding summary_of
  reached = rw (s.lower_is, s.upper_is)

  pub classed : µ ≤ 7 → length words ≤ 4096 → Classed b n m µ g c lower upper starts words
  classed low few =
      let G = class_list_law (register_in b) µ (pred i) in
      record {
        register = o;
        cap_low = low;
        groups_are = rw s.lower_is s.groups_are;
        classes_are = rw s.upper_is s.classes_are;
        groups_long = rw s.lower_is (G.long ∙ sym o.items_are);
        few_groups = rw s.lower_is (omega (arith, G.few, o.items_are));
        level = i;
        numbered = rw s.upper_is (class_list_law (register_in b) µ i);
        rows_stand = rw s.lower_is s.rows_stand;
        few_words = few;
      }
