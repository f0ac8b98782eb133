-- All keys from p to q are the same, and `count` is how many they are, capped.
use mathlib.Core.Path.{◌≡◌}
use Prim.Native.Nat.{ℕ, ◌-◌, ◌≤◌, ◌<◌}
use lib.ListN.{length, get_or}
use Rattle.meaning.specs.Cap.{cap}
use Rattle.rows.proofs.run_from.Given as goal

abbrev pub invariant-loop-q : goal.invariant-loop-q
invariant-loop-q l =
    (l.q ≤ length l.s) × ((i : ℕ) → l.p ≤ i → i < l.q → get_or l.s i 0 ≡ get_or l.s l.p 0) × (l.count.cap ≡ l.mu) × (l.count.number ≡ cap l.mu (l.q - l.p))
