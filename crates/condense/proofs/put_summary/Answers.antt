-- The parts in their order; each is what the definition of the summary has.
use mathlib.Core.Path.{sym, ap}
use native.Mathlib.Omega.{arith}
use Prim.Native.Nat.{ℕ}
use lib.ListN.{length-take}
use lib.Seq.{length-take-le}
use Rattle.meaning.specs.Answers.{into}
use Rattle.said.proofs.Laws.{gives_this}
use Rattle.condense.proofs.Laws.{few_items, few_groups, few_classes, map_long, sorted, given, rows_fit, few_links, head_is, bytes_are}
use Rattle.condense.proofs.put_summary.Goals as goal

pub records-classes-requires : goal.records-classes-requires
records-classes-requires c = sorted c.requires

pub row_numbers-r-requires : goal.row_numbers-r-requires
row_numbers-r-requires c = ((_, _, _, given c.requires), omega arith)

pub class_links-e-requires : goal.class_links-e-requires
class_links-e-requires c = (
  map_long c.requires,
  omega (arith, c.requires.classes_are, few_classes c.requires),
  omega arith,
)

pub slice_bounds-classes-end : goal.slice_bounds-classes-end
slice_bounds-classes-end c = omega (arith, few_classes c.requires)

pub overflow_cast-of : goal.overflow_cast-of
overflow_cast-of c = omega (arith, few_classes c.requires)

pub overflow_cast-of-2 : goal.overflow_cast-of-2
overflow_cast-of-2 c = omega (arith, few_groups c.requires)

pub overflow_cast-of-3 : goal.overflow_cast-of-3
overflow_cast-of-3 c = omega (arith, (rows_fit c.requires _ _ c.row_numbers-r.ensures).2)

pub overflow_cast-of-4 : goal.overflow_cast-of-4
overflow_cast-of-4 c = omega (arith, c.class_links-e.ensures.0, few_links c.requires)

pub head-head-requires : goal.head-head-requires
head-head-requires c = (
  omega (arith, few_classes c.requires),
  omega (arith, (rows_fit c.requires _ _ c.row_numbers-r.ensures).2),
  omega (arith, c.class_links-e.ensures.0, few_links c.requires),
)

pub overflow_mul-rows : goal.overflow_mul-rows
overflow_mul-rows c = omega (arith, (rows_fit c.requires _ _ c.row_numbers-r.ensures).2)

pub slice_bounds-rows-end : goal.slice_bounds-rows-end
slice_bounds-rows-end c = omega (arith, (rows_fit c.requires _ _ c.row_numbers-r.ensures).2)

pub overflow_mul-edges : goal.overflow_mul-edges
overflow_mul-edges c = omega (arith, c.class_links-e.ensures.0, few_links c.requires)

pub slice_bounds-edges-end : goal.slice_bounds-edges-end
slice_bounds-edges-end c = omega (arith, c.class_links-e.ensures.0, few_links c.requires)

pub slice_bounds-parts-end-2 : goal.slice_bounds-parts-end-2
slice_bounds-parts-end-2 c = sym (length-take-le _ _ (omega (arith, few_classes c.requires)))

pub slice_bounds-parts-end-3 : goal.slice_bounds-parts-end-3
slice_bounds-parts-end-3 c = sym (length-take-le _ _ (omega (arith, (rows_fit c.requires _ _ c.row_numbers-r.ensures).2)))

pub slice_bounds-parts-end-4 : goal.slice_bounds-parts-end-4
slice_bounds-parts-end-4 c = sym (length-take-le _ _ (omega (arith, c.class_links-e.ensures.0, few_links c.requires)))

pub invariant_of-parts : goal.invariant_of-parts
invariant_of-parts c = record { few = omega (arith, length-take {A = ℕ}, few_items c.requires, map_long c.requires) }

pub returns : goal.returns
returns c =
    let w = c.args.wanted in
    let rows = rows_fit c.requires _ _ c.row_numbers-r.ensures in
    let links = c.class_links-e.ensures in
    let head = head_is c.requires w.class_cap w.level _ _ rows.0 links.0 c.head-head.ensures in
    gives_this _ _ _ _ _ (ap (into _) (bytes_are c.requires w.class_cap w.level _ head c.records-classes.ensures.numbered rows.1 links.1)) c.file.ensures
