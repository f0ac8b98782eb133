-- A link counts where `leads` says so, and nowhere else.
use Rattle.std.proofs.Common.{arith}
use Rattle.std.proofs.lemmas.Grind.{common_steps}
use Rattle.meaning.specs.Register.{leads}
use Rattle.table.proofs.count_link.Goals as goal

pub returns-then-table-j : goal.returns-then-table-j
unfolding leads
returns-then-table-j c = record { added = λ x h. grind (arith, common_steps) }

pub returns-else-label-along : goal.returns-else-label-along
unfolding leads
returns-else-label-along c = record { added = λ x h. grind (arith, common_steps) }
