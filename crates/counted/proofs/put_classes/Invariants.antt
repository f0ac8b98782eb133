-- The classes of the items passed are written.
use Rattle.std.proofs.Common.{◌≡◌, ℕ, ◌<◌, get_or}
use Rattle.meaning.specs.Summary.{class_at}
use Rattle.meaning.specs.SummaryFile.{summary_in}
use Rattle.counted.proofs.put_classes.Given as goal

abbrev pub invariant-loop-x : goal.invariant-loop-x
invariant-loop-x l = (y : ℕ) → y < l.x → get_or l.classes y 0 ≡ class_at (summary_in l.s.bytes.now) y
