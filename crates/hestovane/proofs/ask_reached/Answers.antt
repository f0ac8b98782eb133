-- 8, and then what holds at the item's class; 5 cannot come any more.
use Rattle.std.proofs.Common.{arith}
use Rattle.listed.proofs.Laws.{mapped}
use Rattle.hestovane.proofs.OnSummary.{ask_eight, asked}
use Rattle.hestovane.proofs.ask_reached.Goals as goal

pub returns-then-items-item : goal.returns-then-items-item
returns-then-items-item c =
    let r = c.requires in
    ask_eight _ _ _ c.args.s.now.well r.tree r.reads r.within (omega (arith, c.items.ensures, c.if-items-item.true))

pub ask-requires : goal.ask-requires
ask-requires c = omega (arith, c.class_of.ensures, mapped _ c.args.item c.args.s.now.well (omega (arith, c.items.ensures, c.if-items-item.false)))

pub returns : goal.returns
returns c = asked _ _ c.args.s.now.well _ c.requires _ _ c.class_of.ensures (omega (arith, c.items.ensures, c.if-items-item.false)) _ c.ask.ensures
