-- `judge` gives document 01's verdict: each way out is the case of `verdict` that the tests before it leave.
use Rattle.std.proofs.Common.{◌∙◌, arith}
use Rattle.std.proofs.lemmas.Grind.{common_steps}
use Rattle.meaning.specs.RegisterFile.{headed, fault, verdict_by, verdict}
use Rattle.register.proofs.Laws.{limits, length_is, links_in_order, counts_are}
use Rattle.register.proofs.verdict.judge.Goals as goal

pub returns-then-reg-lt12-clause-says : goal.returns-then-reg-lt12-clause-says
unfolding verdict verdict_by fault
returns-then-reg-lt12-clause-says c = grind (arith, common_steps)

pub returns-then-not-few-clause-says : goal.returns-then-not-few-clause-says
unfolding verdict verdict_by fault
returns-then-not-few-clause-says c = grind (arith, common_steps)

pub returns-then-not-right_head-clause-says : goal.returns-then-not-right_head-clause-says
unfolding verdict verdict_by fault
returns-then-not-right_head-clause-says c = grind (arith, common_steps)

pub fine-requires : goal.fine-requires
unfolding headed
fine-requires c = grind (arith, common_steps)

pub returns-then-not-fine-clause-says : goal.returns-then-not-fine-clause-says
unfolding verdict verdict_by fault
returns-then-not-fine-clause-says c =
    grind (arith, common_steps, c.fine.ensures ∙ links_in_order _ _ _ c.two-n.ensures c.two-m.ensures)

pub invariant_of-register : goal.invariant_of-register
unfolding fault
invariant_of-register c =
    let in_order = c.fine.ensures ∙ links_in_order _ _ _ c.two-n.ensures c.two-m.ensures in
    let o = counts_are _ _ _ (grind (arith, common_steps, in_order)) c.two-n.ensures c.two-m.ensures in
    let most = limits _ _ _ o in
    record { accepted = o; few_items = most.0; few_links = most.1; long = length_is _ _ _ o }

pub returns-clause-says : goal.returns-clause-says
unfolding verdict verdict_by fault
returns-clause-says c =
    grind (arith, common_steps, c.fine.ensures ∙ links_in_order _ _ _ c.two-n.ensures c.two-m.ensures)
