-- The groups of the items passed.
use Rattle.std.proofs.Common.{arith}
use Rattle.header.proofs.File.{sized_file, well_file}
use Rattle.theory.proofs.ShapeLaws.{well_shaped}
use Rattle.order.proofs.Front.{tab_filled}
use Rattle.rowwise.proofs.put_groups.Goals as goal

pub overflow_cast-x : goal.overflow_cast-x
overflow_cast-x c = omega (arith, (sized_file _ c.args.s.now.well).few_items)

pub group-requires : goal.group-requires
group-requires c = omega (arith, c.class_of-class.ensures, (well_shaped _ (well_file _ c.args.s.now.well).1).classes_in c.loop-x.x (omega arith))

pub returns : goal.returns
returns c = tab_filled _ _ _ (omega arith) (λ i h. c.loop-x.invariant i (omega arith))
