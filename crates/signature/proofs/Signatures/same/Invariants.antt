-- j words are the same.
use mathlib.Core.Path.{◌≡◌}
use mathlib.Core.Bool.{true}
use lib.Dec.{eqb}
use Rattle.meaning.specs.Count.{all}
use Rattle.signature.specs.Signature.{word}
use Rattle.signature.proofs.Signatures.same.Given as goal

abbrev pub invariant-loop-j : goal.invariant-loop-j
invariant-loop-j l = all (λ j. eqb (word l.self.starts.now l.self.rows.now l.x j) (word l.self.starts.now l.self.rows.now l.y j)) l.j ≡ true
