-- 6 as judging the summary gives it.
use Rattle.std.proofs.Common.{ap, ◌∙◌}
use Rattle.meaning.specs.Refusals.{number_of}
use Rattle.meaning.specs.Answers.{number, returned, ask_summary}
use Rattle.hestovane.proofs.OnSummary.{ask_six}
use Rattle.hestovane.proofs.ask_summary.Goals as goal

pub returns-in-Ok : goal.returns-in-Ok
returns-in-Ok c = c.ask_read.ensures ∙ ap (λ s. returned (ask_summary s c.args.q.now c.args.item)) c.in-Ok.ensures

pub returns-in-Err : goal.returns-in-Err
returns-in-Err c = ap (λ r. number (number_of r)) c.in-Err.ensures.0 ∙ ask_six _ _ _ c.in-Err.ensures.1
