-- What a well-formed file has: offsets, sizes and caps within their limits, and no more groups than classes. Leans on theory's ShapeLaws.
use mathlib.Core.Path.{◌≡◌, refl, sym}
use mathlib.Core.Bool.{true, false, cond, ◌&&◌}
use mathlib.Core.List.{List}
use Prim.Native.Nat.{ℕ, zero, suc, ◌≤◌, ◌<◌}
use native.Mathlib.Omega.{arith}
use lib.Dec.{eqb}
use lib.ListN.{length}
use Rattle.meaning.specs.Count.{sum, total}
use Rattle.meaning.specs.Summary.{Summary, no_class, class_of, class_at}
use Rattle.meaning.specs.WellFormed.{in_range, sizes, groups_used, well_formed}
use Rattle.meaning.specs.SummaryFile.{summary_in, exact, well_formed_file}
use Rattle.theory.proofs.CountLaws.{by_bool, no, sum_total, one_of, total_le, total_length, any_total, every_get_d, all_at}
use Rattle.theory.proofs.ShapeLaws.{well_parts, well_shaped}
use Rattle.promise.proofs.Promise.{size_parts, in_range_law}
use Rattle.header.specs.Limits.{Sized}

-- ---- there are no more groups than classes

at_least : (f : ℕ → ℕ) (n : ℕ) → ((i : ℕ) → i < n → 1 ≤ f i) → n ≤ sum f n
unfolding sum
at_least f zero h = omega arith
at_least f (suc n) h = omega (arith, at_least f n (λ i u. h i (omega arith)), h n (omega arith))

pub groups_few : (S : Summary) → groups_used S ≡ true → S.groups ≤ length S.classes
unfolding groups_used
groups_few S e =
    let one : (q : ℕ) → q < S.groups → 1 ≤ total (λ c. cond (eqb c.group q) 1 0) S.classes =
    λ q u.
    any_total {P = λ c. Unit {0}} (λ c. eqb c.group q) (λ c. 1) S.classes (every_get_d (λ c. Unit {0}) no_class S.classes (λ i v. tt))
    (λ c p. omega arith) (all_at _ S.groups q u e) in
    let turn = sum_total (λ q c. cond (eqb c.group q) 1 0) S.classes S.groups in
    let most = total_le (λ c. sum (λ q. cond (true && eqb c.group q) 1 0) S.groups) (λ c. 1) S.classes (λ c. one_of true c.group S.groups) in
    omega (arith, at_least (λ q. total (λ c. cond (eqb c.group q) 1 0) S.classes) S.groups one, turn, most, total_length S.classes)

-- ---- the file

pub not_exact : (s : List ℕ) → exact s ≡ false → false ≡ well_formed_file s
unfolding well_formed_file
not_exact s e = sym (rw e)

pub when_exact : (s : List ℕ) → exact s ≡ true → well_formed (summary_in s) ≡ well_formed_file s
unfolding well_formed_file
when_exact s e = sym (rw e)

pub sized_of : (s : List ℕ) → exact s ≡ true → sizes (summary_in s) ≡ true → in_range (summary_in s).level (summary_in s).near_cap (summary_in s).class_cap ≡ true → Sized s
sized_of s e z r =
    let p = size_parts (summary_in s) z in
    let q = in_range_law _ _ _ r in
    record { exact_is = e; few_classes = p.0; few_items = p.3; few_rows = p.1; few_links = p.2; near_low = q.1; class_low = q.2 }

-- what a well-formed file has
pub well_file : (s : List ℕ) → well_formed_file s ≡ true → (exact s ≡ true) × (well_formed (summary_in s) ≡ true)
unfolding well_formed_file
well_file s e = by_bool (exact s) (λ h. (h, rw h at e)) (λ h. no {t = false} (rw h at e) refl)

pub sized_file : (s : List ℕ) → well_formed_file s ≡ true → Sized s
sized_file s e = let w = well_file s e in let p = well_parts (summary_in s) w.1 in sized_of s w.0 p.1 p.0

-- the same, each by itself
module _ (s : List ℕ) (well : well_formed_file s ≡ true) where
  pub few_classes : length (summary_in s).classes ≤ 1024
  few_classes = (sized_file s well).few_classes

  pub few_items : length (summary_in s).map ≤ 1024
  few_items = (sized_file s well).few_items

  pub few_rows : length (summary_in s).rows ≤ 4096
  few_rows = (sized_file s well).few_rows

  pub few_links : length (summary_in s).links ≤ 2048
  few_links = (sized_file s well).few_links

  pub near_low : (summary_in s).near_cap ≤ 7
  near_low = (sized_file s well).near_low

  pub class_low : (summary_in s).class_cap ≤ 15
  class_low = (sized_file s well).class_low

  pub class_in : (x : ℕ) → x < length (summary_in s).map → class_at (summary_in s) x < length (summary_in s).classes
  class_in = (well_shaped (summary_in s) (well_file s well).1).classes_in

  pub group_in : (k : ℕ) → k < length (summary_in s).classes → (class_of (summary_in s) k).group < (summary_in s).groups
  group_in = (well_shaped (summary_in s) (well_file s well).1).groups_in

pub groups_file : (s : List ℕ) → well_formed_file s ≡ true → (summary_in s).groups ≤ 1024
groups_file s e = omega (arith, groups_few (summary_in s) (well_parts (summary_in s) (well_file s e).1).4, (sized_file s e).few_classes)

pub ruleset limits = (few_classes, few_items, few_rows, few_links, near_low, class_low, class_in, group_in, groups_file)
