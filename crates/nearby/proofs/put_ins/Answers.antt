-- For each item the place behind the last of its links among those passed, and for each link that before it.
use mathlib.Core.Path.{◌∙◌}
use native.Mathlib.Omega.{arith}
use Rattle.nearby.proofs.Laws.{ins_next}
use Rattle.nearby.proofs.put_ins.Goals as goal

pub loop-k-preserved : goal.loop-k-preserved
loop-k-preserved c =
    ins_next _ _ _ _ (omega arith) (omega arith) (omega arith) (c.index-at.ensures ∙ c.target.ensures.0) (omega arith) c.loop-k.invariant.0 c.loop-k.invariant.1
