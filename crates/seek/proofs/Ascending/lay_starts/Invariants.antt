-- The starts of the classes below c are laid, and the i keys passed are of those classes.
use Rattle.std.proofs.Common.{◌≡◌, ◌+◌, ◌-◌, ◌≤◌, length}
use Rattle.seek.proofs.Laws.{Begun}
use Rattle.seek.proofs.Ascending.lay_starts.Given as goal

abbrev pub invariant-loop-i : goal.invariant-loop-i
invariant-loop-i l = (l.i ≤ length l.self.keys.now) × (l.c ≤ 1024) × (length l.starts ≡ length l.initial.starts) × Begun l.starts l.self.keys.now l.c l.i

abbrev pub decreases-loop-i : goal.decreases-loop-i
decreases-loop-i l = (length l.self.keys.now - l.i) + (1024 - l.c)
