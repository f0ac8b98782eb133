-- Each item of the row tells whether its count reaches t.
use lib.Dec.{leb}
use lib.ListN.{get_or}
use Rattle.table.proofs.Laws.{Part}
use Rattle.table.proofs.put_reached.Given as goal

abbrev pub invariant-loop-x : goal.invariant-loop-x
invariant-loop-x l = Part l.initial.table l.table l.j (λ y. leb l.t (get_or l.counts y 0)) l.x
