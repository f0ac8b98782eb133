-- For each item the place behind the last of its links among those passed, and for each link that before it.
use Rattle.meaning.specs.declared.Direction.TheVariants.{Incoming}
use Rattle.meaning.specs.RegisterFile.{register_in}
use Rattle.nearby.proofs.Laws.{Heads, Nexts}
use Rattle.nearby.proofs.put_ins.Given as goal

abbrev pub invariant-loop-k : goal.invariant-loop-k
invariant-loop-k l = Heads (register_in l.reg.bytes.now) Incoming l.ins l.k × Nexts (register_in l.reg.bytes.now) l.ins l.k
