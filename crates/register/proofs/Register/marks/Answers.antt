-- An item's marks stand within the file.
use Rattle.register.proofs.Laws.{marks_is}
use Rattle.register.proofs.Register.marks.Goals as goal

pub returns : goal.returns
returns c =
    marks_is _ _ _ _ c.args.self.now.accepted c.requires _ (rw c.index.ensures at c.four.ensures)
