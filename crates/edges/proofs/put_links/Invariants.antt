-- The class links still to come make them all (`Written`); there are no more of them than keys.
use Rattle.std.proofs.Common.{◌≡◌, ◌≤◌, length}
use Rattle.edges.proofs.Laws.{Written}
use Rattle.edges.proofs.put_links.Given as goal

abbrev pub invariant-loop-v : goal.invariant-loop-v
invariant-loop-v l = (l.r ≤ l.v-index) × (length l.out ≡ length l.initial.out) × Written l.keys l.out l.v-index l.least l.r
