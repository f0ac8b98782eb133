-- `put_four` writes two numbers of two bytes, one behind the other.
use mathlib.Core.Path.{refl}
use Prim.Native.Nat.{◌+◌, ◌/◌, ◌%◌}
use Rattle.meaning.specs.Bytes.{put2, put4}
use Rattle.wire.proofs.Sets.{then}
use Rattle.wire.proofs.put_four.Goals as goal

pub returns : goal.returns
unfolding put2 put4
returns c =
    let a = c.args in
    then a.out.now a.at (put2 (a.v / 65536)) (put2 (a.v % 65536)) (a.at + 2) refl c.put_two.ensures c.put_two-2.ensures
