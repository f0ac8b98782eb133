-- 5, 7, and then what is left.
use Rattle.hestovane.proofs.OnSummary.{reached, ask_refused, ask_too_deep}
use Rattle.hestovane.proofs.ask_read.Goals as goal

pub returns-then-beyond : goal.returns-then-beyond
returns-then-beyond c = ask_too_deep _ _ c.args.s.now.well _ _ c.in-Ok.ensures c.beyond.ensures c.if-beyond.true _

pub ask_reached-requires : goal.ask_reached-requires
ask_reached-requires c = reached _ _ _ _ c.in-Ok.ensures c.beyond.ensures c.if-beyond.false

pub returns-in-Err : goal.returns-in-Err
returns-in-Err c = ask_refused _ _ c.args.s.now.well _ _ c.in-Err.ensures
