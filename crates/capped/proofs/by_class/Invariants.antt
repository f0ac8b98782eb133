-- Each count stands for the items of its class that were passed.
use Rattle.std.proofs.Common.{◌≡◌, length}
use Rattle.capped.specs.Stands.{ByClass}
use Rattle.capped.proofs.by_class.Given as goal

abbrev pub invariant-loop-class : goal.invariant-loop-class
invariant-loop-class l = (length l.counts ≡ 1024) × ByClass l.counts l.classes l.class-index l.cap
