-- The keys of k links are written.
use native.Mathlib.Omega.{arith}
use Rattle.meaning.specs.Register.{link_of}
use Rattle.meaning.specs.RegisterFile.{register_in}
use Rattle.order.proofs.Front.{tab_filled}
use Rattle.surround.specs.Surroundings.{key_of}
use Rattle.surround.proofs.put_keys.Goals as goal

pub returns : goal.returns
returns c =
    let a = c.args in
    let l = c.loop-k in
    tab_filled (λ k. key_of a.way a.cs.now (link_of (register_in a.reg.now.bytes.now) k)) _ l.keys (omega arith) (λ k h. l.invariant k (omega arith))
