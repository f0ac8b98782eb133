-- What was passed is packed.
use native.Mathlib.Omega.{arith}
use lib.ListN.{get_or}
use Rattle.order.proofs.Front.{tab_filled}
use Rattle.marked.specs.Lowest.{pack}
use Rattle.marked.proofs.put_marks.Goals as goal

pub returns : goal.returns
returns c =
    let l = c.loop-x in
    tab_filled (pack (λ y. get_or c.args.marks.now y 0)) _ l.out (omega arith) (λ y h. l.invariant y (omega arith))
