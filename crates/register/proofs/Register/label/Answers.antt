-- The label of a link stands in its second field.
use native.Mathlib.Omega.{arith}
use Rattle.register.proofs.Laws.{label_is}
use Rattle.register.proofs.Register.label.Goals as goal

pub overflow_cast-result : goal.overflow_cast-result
overflow_cast-result c = omega (arith, label_is _ _ _ _ c.args.self.now.accepted c.requires _ c.field.ensures)

pub returns : goal.returns
returns c = label_is _ _ _ _ c.args.self.now.accepted c.requires _ c.field.ensures
