-- `holds` and `neighbour_count` call each other, by way of `group_holds`: entries left fall, the cycle's measure; the rows left fall in
-- the loop, a `for`.
use Rattle.std.proofs.Common.{◌+◌, ◌-◌, ◌*◌, ◌/◌, ◌≤◌, length}
use Rattle.meaning.specs.SummaryFile.{summary_in}
use Rattle.consult.specs.Consulted.{Remembers}
use Rattle.consult.proofs.Laws.{Summed}
use Rattle.consult.proofs.Consulted.+group_holds_holds_neighbour_count.Given as goal

abbrev pub decreases-group_holds : goal.decreases-group_holds
decreases-group_holds l = 3 * (length l.self.now.question.now / 4 - l.at) + 1

abbrev pub decreases-holds : goal.decreases-holds
decreases-holds l = 3 * (length l.self.now.question.now / 4 - l.at)

abbrev pub decreases-neighbour_count : goal.decreases-neighbour_count
decreases-neighbour_count l = 3 * (length l.self.now.question.now / 4 - l.at) + 2

abbrev pub invariant-neighbour_count-loop-row : goal.invariant-neighbour_count-loop-row
invariant-neighbour_count-loop-row l =
    let S = summary_in l.self.read.summary.bytes.now in
    (l.sum ≤ 8 * (l.row - l.fn.rows.low)) × Summed l.self.question.now l.at S l.fn.rows.low l.row l.sum × Remembers l.self.question.now S l.known
