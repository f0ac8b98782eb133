-- `put_two` leaves the buffer with the two bytes written over it.
use native.Mathlib.Numerals.{add-one}
use Rattle.meaning.specs.Bytes.{put2}
use Rattle.wire.proofs.put_two.Goals as goal

pub returns : goal.returns
unfolding put2
returns c = rw add-one
