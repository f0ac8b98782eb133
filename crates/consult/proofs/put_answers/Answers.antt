-- Nothing is known yet.
use native.Mathlib.Omega.{arith}
use Rattle.memo.proofs.Laws.{remembers_none}
use Rattle.consult.proofs.put_answers.Goals as goal

pub put_each-requires-then-q-le64 : goal.put_each-requires-then-q-le64
put_each-requires-then-q-le64 c = (remembers_none _ _ 16384 (omega arith), c.requires)

pub put_each-requires-2 : goal.put_each-requires-2
put_each-requires-2 c = (remembers_none _ _ 65536 (omega arith), c.requires)
