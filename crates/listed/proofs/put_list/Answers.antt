-- 9, or the numbers of the items.
use native.Mathlib.Omega.{arith}
use Rattle.summary.proofs.Laws.{size_numbers}
use Rattle.said.proofs.Laws.{no_room, whole}
use Rattle.listed.proofs.put_list.Goals as goal

pub returns-then-out-long : goal.returns-then-out-long
returns-then-out-long c = no_room _ _ (omega (arith, size_numbers))

pub returns : goal.returns
returns c = whole _ _ _ _ (omega (arith, size_numbers)) (omega (arith, size_numbers)) c.put_numbers.ensures
