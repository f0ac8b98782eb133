-- 6 as judging the summary gives it.
use Rattle.std.proofs.Common.{ap, length}
use Rattle.meaning.specs.Answers.{list}
use Rattle.said.proofs.Laws.{gives_this}
use Rattle.hestovane.proofs.OnSummary.{list_refused_six}
use Rattle.hestovane.proofs.list.Goals as goal

pub returns-in-Ok : goal.returns-in-Ok
returns-in-Ok c =
    let a = c.args in
    gives_this _ _ _ _ _ (ap (λ s. list s a.q.now (length a.out.now)) c.in-Ok.ensures) c.list_read.ensures

pub returns-in-Err : goal.returns-in-Err
returns-in-Err c = list_refused_six _ _ _ _ c.in-Err.ensures.0 c.in-Err.ensures.1
