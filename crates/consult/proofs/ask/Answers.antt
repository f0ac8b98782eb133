-- The class is asked alone, and its word is the answer.
use native.Mathlib.Numerals.{unary_clauses}
use native.Mathlib.Omega.{arith}
use Rattle.consult.proofs.ask.Goals as goal

pub returns : goal.returns
returns c = λ t k p. simp unary_clauses at (c.in-Ok.ensures t k p 0 (omega arith))
