-- 1, 2 and 3 as judging the register gives them.
use Rattle.std.proofs.Common.{ap, ◌∙◌}
use Rattle.meaning.specs.Answers.{returned, check}
use Rattle.hestovane.proofs.Laws.{check_refused}
use Rattle.hestovane.proofs.check.Goals as goal

pub returns-in-Ok : goal.returns-in-Ok
returns-in-Ok c = c.check_accepted.ensures ∙ ap (λ b. returned (check b c.args.s.now)) c.in-Ok.ensures.holds

pub returns-in-Err : goal.returns-in-Err
returns-in-Err c = check_refused _ _ _ c.in-Err.ensures.says
