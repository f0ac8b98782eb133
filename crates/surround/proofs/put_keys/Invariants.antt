-- The keys of k links are written.
use mathlib.Core.Path.{◌≡◌}
use Prim.Native.Nat.{ℕ, ◌<◌}
use lib.ListN.{get_or}
use Rattle.meaning.specs.Register.{link_of}
use Rattle.meaning.specs.RegisterFile.{register_in}
use Rattle.surround.specs.Surroundings.{key_of}
use Rattle.surround.proofs.put_keys.Given as goal

abbrev pub invariant-loop-k : goal.invariant-loop-k
invariant-loop-k l = (j : ℕ) → j < l.k → get_or l.keys j 0 ≡ key_of l.way l.cs (link_of (register_in l.reg.bytes.now) j)
