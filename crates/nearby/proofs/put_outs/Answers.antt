-- For each item the place behind the last of its links among those passed.
use mathlib.Core.Path.{◌∙◌}
use native.Mathlib.Omega.{arith}
use Rattle.nearby.proofs.Laws.{heads_next, source_near}
use Rattle.nearby.proofs.put_outs.Goals as goal

pub loop-k-preserved : goal.loop-k-preserved
loop-k-preserved c =
    heads_next _ _ _ _ _ (source_near _ _ _ (c.index.ensures ∙ c.source.ensures.0)) (omega arith) c.loop-k.invariant
