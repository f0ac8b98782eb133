-- The keys before low are less than the key, and none from high on is.
use Rattle.std.proofs.Common.{◌-◌, ◌≤◌, length}
use Rattle.seek.specs.Keys.{Parted}
use Rattle.seek.proofs.Ascending.halve.Given as goal

abbrev pub invariant-loop-low : goal.invariant-loop-low
invariant-loop-low l = (l.low ≤ l.high) × (l.high ≤ length l.self.keys.now) × Parted l.self.keys.now l.key l.low l.high

abbrev pub decreases-loop-low : goal.decreases-loop-low
decreases-loop-low l = l.high - l.low
