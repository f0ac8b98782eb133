-- The parts in their order; the last decides where the others pass.
use Rattle.std.proofs.Common.{sym, ◌∙◌}
use Rattle.proposal.proofs.Laws.{only_rows}
use Rattle.proposal.proofs.check.Goals as goal

pub returns : goal.returns
returns c =
    c.rows_equal.ensures
    ∙ only_rows _ _ _ c.args.reg.now.accepted.items_are
    (sym c.items.ensures.0 ∙ c.if-items-reg.false)
    (sym c.marks_equal.ensures ∙ c.if-not-marks_equal.false)
    (sym c.counts_equal.ensures ∙ c.if-not-counts_equal.false)
    (sym c.links_are_images.ensures ∙ c.if-not-links_are_images.false)
