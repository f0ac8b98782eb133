-- What was passed is packed.
use native.Mathlib.Omega.{arith}
use Rattle.order.proofs.Front.{tab_filled}
use Rattle.marked.specs.Lowest.{pack}
use Rattle.signature.specs.Signature.{hash_sig}
use Rattle.signature.proofs.Signatures.put_hashes.Goals as goal

pub returns : goal.returns
returns c =
    let s = c.args.self.now in
    let l = c.loop-x in
    tab_filled (pack (hash_sig s.groups.now s.starts.now s.rows.now)) _ l.out (omega arith) (λ y h. l.invariant y (omega arith))
