-- The counts after k links are tallied; after all of them they are the neighbours.
use Rattle.meaning.specs.RegisterFile.{register_in}
use Rattle.table.specs.Row.{row}
use Rattle.table.proofs.Laws.{Tallied}
use Rattle.table.proofs.count.Given as goal

abbrev pub invariant-loop-k : goal.invariant-loop-k
invariant-loop-k l = Tallied (register_in l.reg.bytes.now) l.along.way l.along.label (row l.table l.j) l.counts l.k
