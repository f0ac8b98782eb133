-- Level by level, and then the summary of what was reached.
use Rattle.std.proofs.Common.{ap, arith}
use Rattle.meaning.specs.Answers.{into}
use Rattle.said.proofs.Laws.{gives_this}
use Rattle.condense.proofs.Laws.{classed, reached}
use Rattle.condense.proofs.condense_in.Goals as goal

pub put_summary-requires : goal.put_summary-requires
put_summary-requires c =
    let w = c.args.wanted in
    classed _ _ _ _ w.level w.class_cap _ _ _ _ _ _ c.args.reg.now.accepted c.levels-counts.ensures c.requires.1 (omega arith)

pub returns : goal.returns
returns c =
    let w = c.args.wanted in
    gives_this _ _ _ _ _ (ap (into _) (reached _ _ _ _ w.level w.class_cap _ _ _ _ _ _ c.args.reg.now.accepted c.levels-counts.ensures)) c.put_summary.ensures
