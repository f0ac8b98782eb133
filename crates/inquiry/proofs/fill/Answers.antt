-- From the last entry to the first: the rows from j on are known.
use mathlib.Core.Path.{◌≡◌}
use Prim.Native.Nat.{◌+◌, ◌-◌}
use native.Mathlib.Omega.{arith}
use Rattle.inquiry.proofs.Laws.{known_none, few_entries}
use Rattle.inquiry.proofs.fill.Goals as goal

pub loop-j-init : goal.loop-j-init
loop-j-init c = known_none _ _ _ _

pub put_entry-requires : goal.put_entry-requires
put_entry-requires c =
    let few = few_entries _ c.requires.1 in
    let e : c.loop-j.j - 1 + 1 ≡ c.loop-j.j = omega arith in (
      record { few = c.args.reg.now.few_items; below = omega (arith, few); long = omega arith },
      c.requires.1,
      omega arith,
      rw e c.loop-j.invariant,
    )
