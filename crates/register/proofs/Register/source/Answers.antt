-- The source of a link stands in its first field.
use Rattle.register.proofs.Laws.{source_is}
use Rattle.register.proofs.Register.source.Goals as goal

pub returns : goal.returns
returns c = source_is _ _ _ _ c.args.self.now.accepted c.requires _ c.field.ensures
