-- h is the hash of the group and the words passed.
use mathlib.Core.Path.{◌≡◌}
use Prim.Native.Nat.{◌<◌}
use lib.ListN.{get_or}
use Rattle.signature.specs.Signature.{mix, hashed}
use Rattle.signature.proofs.Signatures.hash_of.Given as goal

abbrev pub invariant-loop-w : goal.invariant-loop-w
invariant-loop-w l = (l.h < 8388593) × (l.h ≡ hashed l.self.starts.now l.self.rows.now l.x (mix 0 (get_or l.self.groups.now l.x 0)) l.w-index)
