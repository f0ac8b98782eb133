-- Every class passed states the count of its items.
use Rattle.std.proofs.Common.{◌≡◌, ℕ, ◌<◌, true, eqb}
use Rattle.meaning.specs.Count.{tally}
use Rattle.meaning.specs.Cap.{cap}
use Rattle.meaning.specs.Summary.{class_of, class_at}
use Rattle.meaning.specs.SummaryFile.{summary_in}
use Rattle.counted.proofs.counts_stated.Given as goal

abbrev pub invariant-loop-k : goal.invariant-loop-k
invariant-loop-k l =
    let S = summary_in l.s.bytes.now in
    (i : ℕ) → i < l.k → eqb (class_of S i).count (cap S.class_cap (tally (λ x. eqb (class_at S x) i) l.n)) ≡ true
