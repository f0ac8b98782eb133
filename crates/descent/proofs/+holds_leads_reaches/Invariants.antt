-- `holds` asks `reaches`, which asks `leads` link by link, which asks `holds` at the neighbour: entries left fall, and in the loop the places
-- left.
use Rattle.std.proofs.Common.{◌≡◌, ◌+◌, ◌-◌, ◌*◌, ◌/◌, ◌≤◌, ◌<◌, length}
use Rattle.meaning.specs.Register.{link_of, near}
use Rattle.meaning.specs.Question.{holds as holds_in}
use Rattle.memo.specs.Kept.{Remembers}
use Rattle.descent.specs.Tells.{register_of}
use Rattle.descent.proofs.Laws.{Met}
use Rattle.descent.proofs.+holds_leads_reaches.Given as goal

abbrev pub decreases-holds : goal.decreases-holds
decreases-holds l = 3 * (length l.asked.now.question.now / 4 - l.at)

abbrev pub decreases-leads : goal.decreases-leads
decreases-leads l = 3 * (length l.asked.now.question.now / 4 - l.at) + 1

abbrev pub decreases-reaches : goal.decreases-reaches
decreases-reaches l = 3 * (length l.asked.now.question.now / 4 - l.at) + 2

-- so many neighbours were met at the links from the place on
abbrev pub invariant-reaches-loop-place : goal.invariant-reaches-loop-place
invariant-reaches-loop-place l =
    let R = register_of l.asked in
    (l.met < l.threshold) × (l.place ≤ l.asked.links.register.links)
    × (1 ≤ l.place → near l.along.way (link_of R (l.place - 1)) ≡ l.x.0)
    × Met l.asked.question.now l.at R l.along.way l.along.label l.x.0 l.met l.place × Remembers l.asked.question.now (holds_in R) l.memory.known.now

abbrev pub decreases-reaches-loop-place : goal.decreases-reaches-loop-place
decreases-reaches-loop-place l = l.place
