-- A well-formed file of n items has what the parts of a check ask. Leans on File and on theory's ShapeLaws.
use mathlib.Core.Path.{◌≡◌}
use mathlib.Core.Bool.{true}
use mathlib.Core.List.{List}
use Prim.Native.Nat.{ℕ}
use native.Mathlib.Omega.{arith}
use lib.ListN.{length}
use Rattle.meaning.specs.SummaryFile.{summary_in, well_formed_file}
use Rattle.theory.proofs.ShapeLaws.{well_shaped}
use Rattle.proposed.specs.Proposed.{Proposed}
use Rattle.header.proofs.File.{well_file, sized_file, groups_file}

pub proposed : (s : List ℕ) (n : ℕ) → well_formed_file s ≡ true → length (summary_in s).map ≡ n → Proposed s n
proposed s n w e =
    let f = well_file s w in
    let z = sized_file s w in
    let shape = well_shaped (summary_in s) f.1 in
    record {
      exact_is = f.0;
      well = f.1;
      items_same = e;
      few_items = omega (arith, z.few_items);
      few_classes = z.few_classes;
      few_rows = z.few_rows;
      few_links = z.few_links;
      few_groups = groups_file s w;
      near_low = z.near_low;
      class_low = z.class_low;
      class_in = λ x h. shape.classes_in x (omega arith);
      group_in = shape.groups_in;
    }
