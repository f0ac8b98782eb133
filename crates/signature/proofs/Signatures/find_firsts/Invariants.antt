-- r starts the run that p stands in (`Run`), and every item passed has its answer at its own place.
use mathlib.Core.Path.{◌≡◌}
use Prim.Native.Nat.{ℕ, ◌<◌}
use lib.ListN.{get_or}
use Rattle.meaning.specs.Level.{first}
use Rattle.marked.specs.Lowest.{item}
use Rattle.signature.specs.Signature.{alike_sig}
use Rattle.marked.proofs.Laws.{Run}
use Rattle.signature.proofs.Signatures.find_firsts.Given as goal

abbrev pub invariant-loop-p : goal.invariant-loop-p
invariant-loop-p l =
    Run l.s l.r l.p ×
    ((q : ℕ) → q < l.p → get_or l.firsts (item l.s q) 0 ≡ first (alike_sig l.self.groups.now l.self.starts.now l.self.rows.now) (item l.s q))
