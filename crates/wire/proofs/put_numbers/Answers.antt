-- The numbers written so far stand one behind the other.
use mathlib.Core.Path.{refl}
use native.Mathlib.Omega.{arith}
use Rattle.meaning.specs.Bytes.{pack}
use Rattle.wire.proofs.Sets.{then_number}
use Rattle.wire.proofs.put_numbers.Goals as goal

pub loop-k-init : goal.loop-k-init
unfolding pack
loop-k-init c = (refl, refl)

pub loop-k-preserved : goal.loop-k-preserved
loop-k-preserved c = (grind (arith, then_number), omega arith)
