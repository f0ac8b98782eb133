-- The first of a class gives marks and group, and has the class's count written.
use mathlib.Core.Path.{ap}
use Prim.Native.Nat.{ℕ, ◌/◌, ◌%◌}
use native.Mathlib.Omega.{arith}
use lib.ListN.{length-set}
use Rattle.classes.proofs.Laws.{enters_first}
use Rattle.classes.proofs.enter.Goals as goal

pub bounds-out-at-3 : goal.bounds-out-at-3
bounds-out-at-3 c = simp length-set (omega arith)

pub bounds-out-at-4 : goal.bounds-out-at-4
bounds-out-at-4 c = simp length-set (omega arith)

pub bounds-out-at-5 : goal.bounds-out-at-5
bounds-out-at-5 c = simp length-set (omega arith)

pub returns : goal.returns
returns c =
    let m = c.marks-marks.ensures in
    rw c.index-at.ensures
    (enters_first _ _ _ _ _ c.requires.2 c.requires.1 _ _ (rw c.index-at.ensures at c.if-number-gt0.false) (ap (λ (v : ℕ). v / 65536) m) (ap (λ (v : ℕ). v % 65536) m))
