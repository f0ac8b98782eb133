-- 1, 2 and 3 as judging the register gives them.
use Rattle.std.proofs.Common.{ap, length}
use Rattle.meaning.specs.Answers.{condense}
use Rattle.said.proofs.Laws.{gives_this}
use Rattle.hestovane.proofs.Laws.{condense_refused}
use Rattle.hestovane.proofs.condense.Goals as goal

pub returns-in-Ok : goal.returns-in-Ok
returns-in-Ok c =
    let a = c.args in
    gives_this _ _ _ _ _ (ap (λ b. condense a.i a.mu a.nu b (length a.out.now)) c.in-Ok.ensures.holds) c.condense_accepted.ensures

pub returns-in-Err : goal.returns-in-Err
returns-in-Err c = condense_refused _ _ _ _ _ _ c.in-Err.ensures.says
