-- The items passed are entered; once all are, the records are the summary's.
use Rattle.std.proofs.Common.{◌≡◌, ℕ, ◌<◌, length}
use Rattle.meaning.specs.RegisterFile.{register_in}
use Rattle.classes.proofs.Laws.{Under}
use Rattle.classes.proofs.records.Given as goal

abbrev pub invariant-loop-x : goal.invariant-loop-x
invariant-loop-x l = (length l.out ≡ 4096) × ((k : ℕ) → k < 1024 → Under (register_in l.reg.bytes.now) l.groups l.classes l.nu l.out l.x k)
