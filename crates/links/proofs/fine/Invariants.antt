-- `fine` passes exactly when each link is in range and comes after the one before. The invariant: link k was read and comes after the
-- one before, and the links before it are in range and in order, but for their sources, which are not above that of link k.
use Prim.Native.Nat.{◌<◌}
use Rattle.links.proofs.Laws.{Hand}
use Rattle.links.proofs.fine.Given as goal

abbrev pub invariant-loop-k : goal.invariant-loop-k
invariant-loop-k l = (l.k < l.m) × (l.source < 65536) × Hand l.b l.at l.n l.k l.source l.rest l.key
