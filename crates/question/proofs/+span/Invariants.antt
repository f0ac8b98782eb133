-- `span` calls itself at a later entry of the same question: the number of entries left falls.
use Rattle.std.proofs.Common.{◌-◌, ◌/◌, length}
use Rattle.question.proofs.+span.Given as goal

abbrev pub decreases-span : goal.decreases-span
decreases-span l = length l.q.now / 4 - l.at
