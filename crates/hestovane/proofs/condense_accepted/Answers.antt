-- 4, and then all that is asked of an accepted register is there.
use Rattle.std.proofs.Common.{sym, ◌∙◌, arith}
use Rattle.said.proofs.Laws.{gives_this}
use Rattle.hestovane.proofs.Laws.{range_low, condense_four, condense_fits}
use Rattle.hestovane.proofs.condense_accepted.Goals as goal

pub overflow_cast-wanted : goal.overflow_cast-wanted
overflow_cast-wanted c = omega (arith, range_low _ _ _ (sym c.in_range.ensures ∙ c.if-in_range.true))

pub overflow_cast-wanted-then-in_range : goal.overflow_cast-wanted-then-in_range
overflow_cast-wanted-then-in_range c = omega (arith, range_low _ _ _ (sym c.in_range.ensures ∙ c.if-in_range.true))

pub condense-requires : goal.condense-requires
condense-requires c = let r = range_low _ _ _ (sym c.in_range.ensures ∙ c.if-in_range.true) in (r.0, r.1)

pub returns-then-in_range : goal.returns-then-in_range
returns-then-in_range c =
    gives_this _ _ _ _ _
    (condense_fits _ c.args.out.now _ _ _ c.args.reg.now.accepted.fine (sym c.in_range.ensures ∙ c.if-in_range.true)) c.condense.ensures

pub returns : goal.returns
returns c = condense_four _ _ _ _ _ c.args.reg.now.accepted.fine (sym c.in_range.ensures ∙ c.if-in_range.false)
