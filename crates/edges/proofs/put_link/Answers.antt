-- Three stores, one behind the other.
use Prim.Native.Nat.{◌*◌, ◌/◌, ◌%◌}
use native.Mathlib.Omega.{arith}
use lib.ListN.{length-set}
use Rattle.summary.specs.Numbers.{edge_numbers}
use Rattle.edges.specs.Keys.{unkeyed}
use Rattle.edges.proofs.Laws.{put_three}
use Rattle.edges.proofs.put_link.Goals as goal

pub bounds-out-at-2 : goal.bounds-out-at-2
bounds-out-at-2 c = simp length-set (omega arith)

pub bounds-out-at-3 : goal.bounds-out-at-3
bounds-out-at-3 c = simp length-set (omega arith)

pub returns : goal.returns
unfolding edge_numbers unkeyed
returns c = let a = c.args in put_three a.out.now (3 * a.r) (a.v / 16384) (a.v / 1024 % 16) (a.v % 1024)
