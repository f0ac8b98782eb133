-- The classes before i are answered.
use Rattle.meaning.specs.SummaryFile.{summary_in}
use Rattle.consult.specs.Consulted.{Remembers}
use Rattle.consult.proofs.Laws.{Answered}
use Rattle.consult.proofs.Consulted.put_each.Given as goal

abbrev pub invariant-loop-i : goal.invariant-loop-i
invariant-loop-i l =
    let S = summary_in l.self.read.summary.bytes.now in Answered l.self.question.now S l.first.0 l.answers l.i × Remembers l.self.question.now S l.known
