-- `right_head` tells whether the header is right: each field read is the one that `headed` compares.
use Rattle.std.proofs.Common.{arith}
use Rattle.meaning.specs.RegisterFile.{headed}
use Rattle.std.proofs.lemmas.Grind.{common_steps}
use Rattle.register.proofs.verdict.right_head.Goals as goal

pub returns-then-two-eq0 : goal.returns-then-two-eq0
unfolding headed
returns-then-two-eq0 c = grind (arith, common_steps)

pub returns-else-two-eq0 : goal.returns-else-two-eq0
unfolding headed
returns-else-two-eq0 c = grind (arith, common_steps)
