-- The keys that j class links ask for are written.
use Rattle.meaning.specs.SummaryFile.{summary_in}
use Rattle.lists.specs.Writes.{Writes}
use Rattle.matching.specs.Keys.{asked_key}
use Rattle.matching.proofs.Ordered.put_asked.Given as goal

abbrev pub invariant-loop-j : goal.invariant-loop-j
invariant-loop-j l = Writes l.initial.asked l.asked l.at l.j (asked_key (summary_in l.self.summary.bytes.now) l.way)
