-- A list of zeros is zero anywhere.
use native.Mathlib.Omega.{arith}
use Rattle.memo.proofs.Laws.{zeros}
use Rattle.descent.proofs.ask_deep.Goals as goal

pub ask_kept-requires : goal.ask_kept-requires
ask_kept-requires c = (c.requires, omega arith, zeros 16384)

pub ask_kept-requires-2 : goal.ask_kept-requires-2
ask_kept-requires-2 c = (c.requires, omega arith, zeros 65536)
