-- What the check says, or 6.
use Rattle.std.proofs.Common.{ap, ◌∙◌}
use Rattle.meaning.specs.Refusals.{number_of}
use Rattle.meaning.specs.Answers.{word, number, returned, check}
use Rattle.hestovane.proofs.Laws.{check_six, check_said}
use Rattle.hestovane.proofs.check_accepted.Goals as goal

pub returns-in-Ok : goal.returns-in-Ok
returns-in-Ok c =
    let r = c.in-Ok.read in
    ap word c.check.ensures
    ∙ check_said _ _ c.args.reg.now.accepted.fine r.well
    ∙ ap (λ s. returned (check c.args.reg.now.bytes.now s)) c.in-Ok.ensures

pub returns-in-Err : goal.returns-in-Err
returns-in-Err c = ap (λ r. number (number_of r)) c.in-Err.ensures.0 ∙ check_six _ _ c.args.reg.now.accepted.fine c.in-Err.ensures.1
