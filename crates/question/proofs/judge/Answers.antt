-- `judge` gives document 01's verdict: each way out is the case of `verdict` that the tests before it leave.
use native.Mathlib.Omega.{arith}
use Rattle.question.proofs.Steps.{not_fours, too_many, no_tree, remains, whole}
use Rattle.question.proofs.judge.Goals as goal

pub returns-then-q-ne0 : goal.returns-then-q-ne0
returns-then-q-ne0 c = not_fours _ c.if-q-ne0.true

pub returns-then-entries-gt-MOST_ENTRIES : goal.returns-then-entries-gt-MOST_ENTRIES
returns-then-entries-gt-MOST_ENTRIES c = too_many _ (omega arith)

pub returns-in_default : goal.returns-in_default
returns-in_default c = no_tree _ _ c.in_default.ensures

pub returns-then-tree-entries : goal.returns-then-tree-entries
returns-then-tree-entries c = remains _ _ c.in-Ok.ensures (λ e. omega arith)

pub returns : goal.returns
returns c = whole _ _ c.in-Ok.ensures c.if-q-ne0.false c.if-entries-gt-MOST_ENTRIES.false c.if-tree-entries.false
