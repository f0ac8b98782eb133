-- No link passed has x for its target.
use Rattle.meaning.specs.RegisterFile.{register_in}
use Rattle.nearby.proofs.Laws.{Passed}
use Rattle.nearby.proofs.down.Given as goal

abbrev pub invariant-loop-k : goal.invariant-loop-k
invariant-loop-k l = Passed (register_in l.reg.bytes.now) l.x.0 l.j l.k
