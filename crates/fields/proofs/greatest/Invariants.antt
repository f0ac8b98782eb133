-- The greatest of the first x numbers.
use mathlib.Core.Path.{◌≡◌}
use Rattle.meaning.specs.Summary.{class_at}
use Rattle.meaning.specs.SummaryFile.{summary_in}
use Rattle.fields.specs.Most.{most}
use Rattle.fields.proofs.greatest.Given as goal

abbrev pub invariant-loop-x : goal.invariant-loop-x
invariant-loop-x l = l.top ≡ most (class_at (summary_in l.s.bytes.now)) l.x
