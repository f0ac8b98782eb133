-- The code is the definition.
use mathlib.Core.Path.{refl}
use native.Mathlib.Omega.{arith}
use Rattle.signature.specs.Signature.{mix}
use Rattle.signature.proofs.stir.Goals as goal

pub returns : goal.returns
unfolding mix
returns c = (refl, omega arith)
