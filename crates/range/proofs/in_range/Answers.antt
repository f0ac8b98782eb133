-- Level, then µ, then ν.
use mathlib.Core.Path.{sym, ◌∙◌}
use Rattle.range.proofs.Laws.{no_level, no_near, by_class}
use Rattle.range.proofs.in_range.Goals as goal

pub returns-then-not-within : goal.returns-then-not-within
returns-then-not-within c = no_level _ _ _ (sym c.within.ensures ∙ c.if-not-within.true)

pub returns-then-not-within-2 : goal.returns-then-not-within-2
returns-then-not-within-2 c =
    no_near _ _ _ (sym c.within.ensures ∙ c.if-not-within.false) (sym c.within-2.ensures ∙ c.if-not-within-2.true)

pub returns : goal.returns
returns c =
    c.within-3.ensures
    ∙ by_class _ _ _ (sym c.within.ensures ∙ c.if-not-within.false) (sym c.within-2.ensures ∙ c.if-not-within-2.false)
