-- Four writes, one behind the other.
use Prim.Native.Nat.{◌*◌, ◌/◌, ◌%◌}
use native.Mathlib.Omega.{arith}
use lib.ListN.{length-set}
use Rattle.filed.specs.Copied.{word_numbers}
use Rattle.filed.proofs.Laws.{four_written}
use Rattle.filed.proofs.put_row.Goals as goal

pub bounds-out-first-2 : goal.bounds-out-first-2
bounds-out-first-2 c = simp length-set (omega arith)

pub bounds-out-first-3 : goal.bounds-out-first-3
bounds-out-first-3 c = simp length-set (omega arith)

pub bounds-out-first-4 : goal.bounds-out-first-4
bounds-out-first-4 c = simp length-set (omega arith)

pub returns : goal.returns
unfolding word_numbers
returns c = let a = c.args in four_written a.out.now (4 * a.at) a.class (a.word / 16384) (a.word / 16 % 1024) (a.word % 16)
