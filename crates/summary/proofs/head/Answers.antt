-- The header's numbers, with offsets that fit two bytes.
use mathlib.Core.Path.{refl}
use Rattle.summary.specs.Numbers.{head_of}
use Rattle.summary.proofs.head.Goals as goal

pub returns : goal.returns
unfolding head_of
returns c = refl
