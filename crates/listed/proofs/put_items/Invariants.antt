-- The items before x that are on the list stand there.
use mathlib.Core.Path.{◌≡◌}
use lib.ListN.{length, take}
use Rattle.meaning.specs.Count.{those}
use Rattle.listed.specs.Passing.{passes}
use Rattle.listed.proofs.put_items.Given as goal

abbrev pub invariant-loop-x : goal.invariant-loop-x
invariant-loop-x l =
    let on = those (passes l.s.bytes.now l.answers) l.x in (l.r ≡ length on) × (take l.r l.out ≡ on) × (length l.out ≡ length l.initial.out)
