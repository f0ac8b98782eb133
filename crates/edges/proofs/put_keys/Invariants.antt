-- The keys of the links passed.
use Rattle.std.proofs.Common.{◌≡◌, ℕ, ◌<◌, get_or}
use Rattle.meaning.specs.Register.{link_of}
use Rattle.meaning.specs.RegisterFile.{register_in}
use Rattle.edges.specs.Keys.{key_of}
use Rattle.edges.proofs.put_keys.Given as goal

abbrev pub invariant-loop-k : goal.invariant-loop-k
invariant-loop-k l = (i : ℕ) → i < l.k → get_or l.keys i 0 ≡ key_of l.classes (link_of (register_in l.reg.bytes.now) i)
