-- What the call gives, with its return as one number.
use mir.Syntax.{w32}
use mir.Facts.{to_z-of_z}
use mathlib.Core.Path.{sym, ap, subst, ◌∙◌}
use Rattle.meaning.specs.Answers.{Returned, code}
use Rattle.said.specs.Written.{Short}
use Rattle.hestovane.proofs.OnSummary.{list_short}
use borrow.Author.Rules.{rules}
use Rattle.hestovane.proofs.hestovane_list.Goals as goal

pub measured-requires : goal.measured-requires
measured-requires c = subst (λ (r : Returned). Short r) (sym c.list.ensures.says) (list_short _ _ _)

pub returns-clause-value : goal.returns-clause-value
returns-clause-value c =
    to_z-of_z {w = w32} {z = c.measured.result} (search rules) ∙ c.measured.ensures ∙ ap code c.list.ensures.says

pub returns-clause-out_after : goal.returns-clause-out_after
returns-clause-out_after c = c.list.ensures.leaves
