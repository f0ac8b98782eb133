-- The marks of x items are read.
use mathlib.Core.Path.{◌≡◌}
use Prim.Native.Nat.{ℕ, ◌<◌}
use lib.ListN.{get_or}
use Rattle.meaning.specs.Register.{marks_of}
use Rattle.meaning.specs.RegisterFile.{register_in}
use Rattle.marked.proofs.read_marks.Given as goal

abbrev pub invariant-loop-x : goal.invariant-loop-x
invariant-loop-x l = (y : ℕ) → y < l.x → get_or l.marks y 0 ≡ marks_of (register_in l.reg.bytes.now) y
