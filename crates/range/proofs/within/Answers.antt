-- From the least to the most.
use mathlib.Core.Path.{sym}
use borrow.Author.Tests.{le-leb, lt-leb}
use Rattle.meaning.specs.WellFormed as meant
use Rattle.range.proofs.within.Goals as goal

pub returns-then-least-v : goal.returns-then-least-v
unfolding meant.within
returns-then-least-v c = sym (rw (le-leb c.args.least c.args.v c.if-least-v.true))

pub returns-else-least-v : goal.returns-else-least-v
unfolding meant.within
returns-else-least-v c = sym (rw (lt-leb c.args.least c.args.v c.if-least-v.false))
