-- The groups of the items passed.
use Rattle.std.proofs.Common.{◌≡◌, ℕ, ◌<◌, get_or}
use Rattle.meaning.specs.Summary.{group_at}
use Rattle.meaning.specs.SummaryFile.{summary_in}
use Rattle.rowwise.proofs.put_groups.Given as goal

abbrev pub invariant-loop-x : goal.invariant-loop-x
invariant-loop-x l = (i : ℕ) → i < l.x → get_or l.groups i 0 ≡ group_at (summary_in l.s.summary.bytes.now) i
