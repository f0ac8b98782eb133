-- The items whose class passes, and 9; 5 cannot come any more.
use Rattle.std.proofs.Common.{arith}
use Rattle.said.proofs.Laws.{gives_this}
use Rattle.hestovane.proofs.OnSummary.{untold, listed}
use Rattle.hestovane.proofs.list_answered.Goals as goal

pub returns-in_default : goal.returns-in_default
returns-in_default c = untold _ _ c.args.s.now.well _ c.requires.0 _ _ _ _ c.in_default.is c.put_answers.ensures

pub returns : goal.returns
returns c =
    let all = rw c.in-Ok.is at c.put_answers.ensures in
    gives_this _ _ _ _ _
    (listed _ _ c.args.s.now.well _ c.requires.0 _ _ c.args.out.now _ (omega (arith, c.put_answers.auto.answers, c.requires.1)) all c.put_items-r.ensures.1)
    c.put_list.ensures
