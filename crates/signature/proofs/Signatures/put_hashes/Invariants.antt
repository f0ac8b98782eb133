-- What was passed is packed.
use mathlib.Core.Path.{◌≡◌}
use Prim.Native.Nat.{ℕ, ◌<◌}
use lib.ListN.{get_or}
use Rattle.marked.specs.Lowest.{pack}
use Rattle.signature.specs.Signature.{hash_sig}
use Rattle.signature.proofs.Signatures.put_hashes.Given as goal

abbrev pub invariant-loop-x : goal.invariant-loop-x
invariant-loop-x l = (y : ℕ) → y < l.x → get_or l.out y 0 ≡ pack (hash_sig l.self.groups.now l.self.starts.now l.self.rows.now) y
