-- The answer as one number.
use mir.Syntax.{w32}
use mir.Facts.{to_z-of_z}
use mathlib.Core.Path.{ap, ◌∙◌}
use Rattle.meaning.specs.Answers.{code}
use borrow.Author.Rules.{rules}
use Rattle.hestovane.proofs.hestovane_ask_summary.Goals as goal

pub returns : goal.returns
returns c = to_z-of_z {w = w32} {z = c.coded.result} (search rules) ∙ c.coded.ensures ∙ ap code c.ask_summary.ensures
