-- Links below low have no later source than x, and those from high on have.
use Prim.Native.Nat.{◌-◌, ◌≤◌}
use Rattle.meaning.specs.RegisterFile.{register_in}
use Rattle.nearby.specs.Nearby.{Parts}
use Rattle.nearby.proofs.past.Given as goal

abbrev pub invariant-loop-low : goal.invariant-loop-low
invariant-loop-low l = (l.low ≤ l.high) × (l.high ≤ l.reg.links) × Parts (register_in l.reg.bytes.now) l.x.0 l.low l.high

abbrev pub decreases-loop-low : goal.decreases-loop-low
decreases-loop-low l = l.high - l.low
