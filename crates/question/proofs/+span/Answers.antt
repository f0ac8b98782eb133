-- `span` tells what stands at an entry: by the entry's kind, from what it tells of the operands. The measure is the number of
-- entries left, which falls as the entry lies within the question. Each way out is a step's law.
use mathlib.Core.Path.{sym, ap, ◌∙◌}
use mathlib.Core.Option.{some}
use native.Mathlib.Omega.{arith}
use Rattle.question.proofs.Steps.{s_none, s_leaf, s_not, s_least, s_least_none, s_two, s_first_none, s_second_none, s_bounds, s_shallow}
use Rattle.question.proofs.+span.Goals as goal

pub returns-in_default : goal.returns-in_default
returns-in_default t c = s_none _ _ c.in_default.ensures.entry

pub returns-in_default-span : goal.returns-in_default-span
returns-in_default-span t c = s_first_none _ _ _ _ c.in-And.is (sym c.in-Some.ensures.entry) c.in_default-span.ensures

pub span-requires-in-And-2 : goal.span-requires-in-And-2
span-requires-in-And-2 t c =
    (omega (arith, c.in-Some.ensures.within, s_bounds _ _ _ c.in-Ok.ensures), tt)

pub returns-in_default-span-2 : goal.returns-in_default-span-2
returns-in_default-span-2 t c = s_second_none _ _ _ _ _ c.in-And.is (sym c.in-Some.ensures.entry) c.in-Ok.ensures c.in_default-span-2.ensures

pub returns-in_default-span-3 : goal.returns-in_default-span-3
returns-in_default-span-3 t c = s_least_none _ _ _ (sym c.in-Some.ensures.entry ∙ ap some c.in-AtLeast.is) c.in_default-span-3.ensures

pub raised-requires : goal.raised-requires
raised-requires t c = s_shallow _ _ _ c.in-Ok-span-2.ensures

pub returns-in-True : goal.returns-in-True
returns-in-True t c = s_leaf _ _ _ c.in-True.is (sym c.in-Some.ensures.entry)

pub returns-in-Not : goal.returns-in-Not
returns-in-Not t c = s_not _ _ _ (sym c.in-Some.ensures.entry ∙ ap some c.in-Not.is) c.span.ensures

pub returns-in-Ok-span : goal.returns-in-Ok-span
returns-in-Ok-span t c =
    rw c.joined.ensures (s_two _ _ _ _ _ c.in-And.is (sym c.in-Some.ensures.entry) c.in-Ok.ensures c.in-Ok-span.ensures)

pub returns-in-Ok-span-2 : goal.returns-in-Ok-span-2
returns-in-Ok-span-2 t c =
    rw c.raised.ensures (s_least _ _ _ (sym c.in-Some.ensures.entry ∙ ap some c.in-AtLeast.is) c.in-Ok-span-2.ensures)
