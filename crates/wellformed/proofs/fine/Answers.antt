-- What rows and class links are held against one another for.
use native.Mathlib.Omega.{arith}
use Rattle.wellformed.proofs.Laws.{parts}
use Rattle.wellformed.proofs.fine.Goals as goal

pub invariant_of-rows_match : goal.invariant_of-rows_match
invariant_of-rows_match c = grind (arith, parts)
