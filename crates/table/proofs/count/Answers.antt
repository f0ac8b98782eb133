-- The counts after k links are tallied; after all of them they are the neighbours.
use native.Mathlib.Omega.{arith}
use Rattle.table.proofs.Laws.{tallied_none, tallied_next, tallied_small, tallied_all}
use Rattle.table.proofs.count.Goals as goal

pub loop-k-init : goal.loop-k-init
loop-k-init c = tallied_none _ _ _ _

pub count_link-requires : goal.count_link-requires
count_link-requires c = (c.requires, omega arith, tallied_small _ _ _ _ _ _ (omega arith) c.loop-k.invariant)

pub loop-k-preserved : goal.loop-k-preserved
loop-k-preserved c = tallied_next _ _ _ _ _ _ _ (omega arith) c.loop-k.invariant c.count_link.ensures

pub returns : goal.returns
returns c = tallied_all _ _ _ _ _ _ _ (omega arith) (omega arith) c.loop-k.invariant
