-- Every number passed is a key, and the marks stand at those keys.
use Rattle.std.proofs.Common.{◌≡◌, ℕ, ◌<◌, true, length, take, get_or, eqb}
use Rattle.meaning.specs.Count.{any}
use Rattle.seek.specs.Keys.{Marks}
use Rattle.seek.proofs.ByClass.mark_all.Given as goal

abbrev pub invariant-loop-number : goal.invariant-loop-number
invariant-loop-number l =
    (length l.marked ≡ length l.initial.marked) × ((c : ℕ) → c < l.number-index → any (eqb (get_or l.needed c 0)) l.self.ascending.keys.now ≡ true)
    × Marks l.marked l.self.ascending.keys.now (take l.number-index l.needed)
