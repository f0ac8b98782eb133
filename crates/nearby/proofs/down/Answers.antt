-- No link passed has x for its target.
use mathlib.Core.Path.{sym, ◌∙◌}
use native.Mathlib.Omega.{arith}
use Rattle.nearby.proofs.Laws.{passed_found, passed_all}
use Rattle.nearby.proofs.down.Goals as goal

pub returns-then-target-x : goal.returns-then-target-x
returns-then-target-x c =
    passed_found _ _ _ _ (omega arith) (sym c.target.ensures.0 ∙ c.if-target-x.true) (λ i h. c.loop-k.invariant i (omega arith))

pub returns : goal.returns
returns c = passed_all _ _ _ (λ i h. c.loop-k.invariant i (omega arith))
