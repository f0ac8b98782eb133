-- What was passed is packed.
use mathlib.Core.Path.{◌≡◌}
use Prim.Native.Nat.{ℕ, ◌<◌}
use lib.ListN.{get_or}
use Rattle.marked.specs.Lowest.{pack}
use Rattle.marked.proofs.put_marks.Given as goal

abbrev pub invariant-loop-x : goal.invariant-loop-x
invariant-loop-x l = (y : ℕ) → y < l.x → get_or l.out y 0 ≡ pack (λ z. get_or l.marks z 0) y
