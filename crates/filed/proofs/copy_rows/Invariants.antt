-- The words below j are copied.
use mathlib.Core.Path.{◌≡◌}
use Prim.Native.Nat.{◌*◌, ◌≤◌}
use lib.ListN.{length}
use lib.Seq.{sets}
use Rattle.filed.specs.Copied.{copied}
use Rattle.filed.proofs.copy_rows.Given as goal

abbrev pub invariant-loop-j : goal.invariant-loop-j
invariant-loop-j l = (l.j ≤ l.m) × (length l.out ≡ 16384) × (l.out ≡ sets l.initial.out (4 * l.at) (copied l.rows l.class l.from l.j))
