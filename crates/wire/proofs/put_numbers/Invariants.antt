-- The numbers written so far stand one behind the other.
use mathlib.Core.Path.{◌≡◌}
use lib.ListN.{length, take}
use lib.Seq.{sets}
use Rattle.meaning.specs.Bytes.{put2, pack}
use Rattle.wire.proofs.put_numbers.Given as goal

abbrev pub invariant-loop-k : goal.invariant-loop-k
invariant-loop-k l = (l.out ≡ sets l.initial.out l.at (pack put2 (take l.k l.t))) × (length l.out ≡ length l.initial.out)
