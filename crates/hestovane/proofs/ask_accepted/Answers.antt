-- 5 where the question is malformed.
use Rattle.hestovane.proofs.Laws.{ask_malformed, whole}
use Rattle.hestovane.proofs.ask_accepted.Goals as goal

pub ask_whole-requires : goal.ask_whole-requires
ask_whole-requires c = whole _ _ _ c.in-Ok.ensures

pub returns-in-Err : goal.returns-in-Err
returns-in-Err c = ask_malformed _ _ _ _ c.in-Err.ensures
