-- Links below low have no later source than x, and those from high on have.
use native.Mathlib.Omega.{arith}
use Rattle.nearby.proofs.Laws.{parts_up, parts_down}
use Rattle.nearby.proofs.past.Goals as goal

pub loop-low-preserved-then-source-x : goal.loop-low-preserved-then-source-x
loop-low-preserved-then-source-x c =
    (omega arith, omega arith, parts_up _ _ _ _ c.args.reg.now.accepted _ _ _ (omega arith) (omega arith) c.loop-low.invariant.2)

pub loop-low-preserved : goal.loop-low-preserved
loop-low-preserved c =
    (omega arith, omega arith, parts_down _ _ _ _ c.args.reg.now.accepted _ _ _ (omega arith) c.loop-low.invariant.2)
