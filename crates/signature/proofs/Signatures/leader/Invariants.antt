-- The search from q on gives what the search from r on does.
use mathlib.Core.Path.{◌≡◌}
use mathlib.Core.Bool.{Bool}
use Prim.Native.Nat.{ℕ, ◌-◌, ◌≤◌}
use Rattle.meaning.specs.Count.{seek}
use Rattle.marked.specs.Lowest.{item}
use Rattle.signature.specs.Signature.{alike_sig}
use Rattle.signature.proofs.Signatures.leader.Given as goal

abbrev pub invariant-loop-q : goal.invariant-loop-q
invariant-loop-q l =
    let t : ℕ → Bool = λ q. alike_sig l.self.groups.now l.self.starts.now l.self.rows.now (item l.s q) (item l.s l.p) in
    (l.q ≤ l.p) × (seek t l.q (l.p - l.q) ≡ seek t l.r (l.p - l.r))
