-- The keys before the place are less than the key.
use Rattle.seek.specs.Keys.{Parted}
use Rattle.seek.proofs.Ascending.step.Given as goal

abbrev pub invariant-loop-at : goal.invariant-loop-at
invariant-loop-at l = Parted l.self.keys.now l.key l.at l.to
