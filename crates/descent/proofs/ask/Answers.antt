-- A list of zeros is zero anywhere.
use mathlib.Core.Path.{refl}
use Rattle.memo.proofs.Laws.{zeros}
use Rattle.descent.proofs.ask.Goals as goal

pub outs_made-requires : goal.outs_made-requires
outs_made-requires c = (refl, zeros 1024)

pub ins_made-requires : goal.ins_made-requires
ins_made-requires c = (refl, zeros 3072)
