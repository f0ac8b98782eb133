-- The front is numbered, k is how many lowest items were passed.
use mathlib.Core.Path.{◌≡◌}
use mathlib.Core.List.{◌++◌}
use Prim.Native.Nat.{◌≤◌}
use lib.ListN.{drop}
use Rattle.meaning.specs.Count.{tally, tab}
use Rattle.marked.specs.Lowest.{own, number_of}
use Rattle.marked.proofs.number_firsts.Given as goal

abbrev pub invariant-loop-i : goal.invariant-loop-i
invariant-loop-i l = (l.k ≤ l.i) × (l.k ≡ tally (own l.firsts) l.i) × (l.out ≡ tab (number_of l.firsts) l.i ++ drop l.i l.initial.out)
