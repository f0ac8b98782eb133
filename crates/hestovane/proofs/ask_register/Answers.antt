-- 1, 2 and 3 as judging the register gives them.
use Rattle.std.proofs.Common.{ap, ◌∙◌}
use Rattle.meaning.specs.Answers.{returned, ask_register}
use Rattle.hestovane.proofs.Laws.{ask_refused, ask_accepted}
use Rattle.hestovane.proofs.ask_register.Goals as goal

pub returns-in-Ok : goal.returns-in-Ok
returns-in-Ok c =
    let r = c.in-Ok.register in
    c.ask_accepted.ensures ∙ ask_accepted _ _ _ r.accepted.fine ∙ ap (λ b. returned (ask_register b c.args.q.now c.args.item)) c.in-Ok.ensures.holds

pub returns-in-Err : goal.returns-in-Err
returns-in-Err c = ask_refused _ _ _ _ c.in-Err.ensures.says
