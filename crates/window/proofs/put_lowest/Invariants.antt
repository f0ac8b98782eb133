-- Of the classes from k on, the lowest of each group is entered.
use Rattle.meaning.specs.SummaryFile.{summary_in}
use Rattle.window.proofs.Lowest.{Entered}
use Rattle.window.proofs.put_lowest.Given as goal

abbrev pub invariant-loop-k : goal.invariant-loop-k
invariant-loop-k l = Entered (summary_in l.s.bytes.now) l.lowest l.k
