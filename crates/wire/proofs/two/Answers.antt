-- `two` reads the number at its place.
use mathlib.Core.Path.{refl}
use Rattle.meaning.specs.Bytes.{num2}
use Rattle.wire.proofs.two.Goals as goal

pub returns : goal.returns
unfolding num2
returns c = refl
