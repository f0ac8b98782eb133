-- The length is known before the first byte is written; each part begins where the one before ends.
use native.Mathlib.Omega.{arith}
use Rattle.said.proofs.Laws.{no_room, whole}
use Rattle.summary.proofs.Laws.{parts_long, written}
use Rattle.summary.proofs.file.Goals as goal

pub returns-then-out-long : goal.returns-then-out-long
returns-then-out-long c = no_room _ _ (omega (arith, parts_long))

pub returns : goal.returns
returns c =
    whole _ _ _ _ (omega (arith, parts_long)) (omega (arith, parts_long))
    (written _ _ _ _ _ _ _ _ _ c.args.of.now.few.0 (omega arith) (omega arith) (omega arith)
    c.put_numbers.ensures c.put_numbers-2.ensures c.put_numbers-3.ensures c.put_numbers-4.ensures c.put_numbers-5.ensures)
