-- 8 where the item is not one of the register's, and else what the question says there.
use Rattle.std.proofs.Common.{ap, ◌∙◌, arith}
use Rattle.said.specs.Told.{told}
use Rattle.hestovane.proofs.Laws.{ask_beyond, ask_said}
use Rattle.hestovane.proofs.ask_whole.Goals as goal

pub returns-then-reg-item : goal.returns-then-reg-item
returns-then-reg-item c = ask_beyond _ _ _ _ _ c.args.reg.now.accepted c.requires (omega arith)

pub returns : goal.returns
returns c = ap told c.ask.ensures ∙ ask_said _ _ _ _ _ c.args.reg.now.accepted c.requires (omega arith)
