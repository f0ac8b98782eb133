-- The link before j is x's, or no link below j is.
use mathlib.Core.Path.{sym, ◌∙◌}
use native.Mathlib.Omega.{arith}
use Rattle.nearby.proofs.Laws.{ending_own, ending_not}
use Rattle.nearby.proofs.ending.Goals as goal

pub returns-then-source-x : goal.returns-then-source-x
returns-then-source-x c =
    ending_own _ _ _ _ c.args.reg.now.accepted _ (omega arith) (sym c.source.ensures.0 ∙ c.if-source-x.true)

pub returns-else-j-gt0 : goal.returns-else-j-gt0
returns-else-j-gt0 c =
    ending_not _ _ _ _ c.args.reg.now.accepted _ c.requires.0 c.requires.1 (λ h e. grind arith)
