-- An empty map.
use native.Mathlib.Omega.{arith}
use Rattle.meaning.specs.SummaryFile.{summary_in}
use Rattle.fields.proofs.Most.{map_none}
use Rattle.fields.proofs.map_fine.Goals as goal

pub returns-then-items-eq0 : goal.returns-then-items-eq0
returns-then-items-eq0 c = map_none (summary_in c.args.s.now.bytes.now) (omega arith)
