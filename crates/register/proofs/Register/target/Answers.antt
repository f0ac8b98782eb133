-- The target of a link stands in its third field.
use Rattle.register.proofs.Laws.{target_is}
use Rattle.register.proofs.Register.target.Goals as goal

pub returns : goal.returns
returns c = target_is _ _ _ _ c.args.self.now.accepted c.requires _ c.field.ensures
