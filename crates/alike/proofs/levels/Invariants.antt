-- After j steps, which the counter counts, upper has the list of level j, and lower that of the level before (`Going`).
use Rattle.alike.proofs.ByLevel.{Going}
use Rattle.meaning.specs.RegisterFile.{register_in}
use Rattle.alike.proofs.levels.Given as goal

abbrev pub invariant-loop : goal.invariant-loop
invariant-loop l = Going (register_in l.reg.bytes.now) l.mu l.reg.items l.counter l.lower l.upper l.groups l.classes l.starts l.rows
