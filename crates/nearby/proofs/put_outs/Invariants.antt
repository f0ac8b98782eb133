-- For each item the place behind the last of its links among those passed.
use Rattle.meaning.specs.declared.Direction.TheVariants.{Outgoing}
use Rattle.meaning.specs.RegisterFile.{register_in}
use Rattle.nearby.proofs.Laws.{Heads}
use Rattle.nearby.proofs.put_outs.Given as goal

abbrev pub invariant-loop-k : goal.invariant-loop-k
invariant-loop-k l = Heads (register_in l.reg.bytes.now) Outgoing l.outs l.k
