-- `four` reads two numbers of two bytes.
use Rattle.meaning.specs.Bytes.{num4}
use Rattle.wire.proofs.four.Goals as goal

pub returns : goal.returns
unfolding num4
returns c = rw (c.two.ensures, c.two-2.ensures)
