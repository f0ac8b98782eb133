-- The words of x are cut out.
use Rattle.signature.proofs.Laws.{cut}
use Rattle.signature.proofs.Signatures.rows_of.Goals as goal

pub returns : goal.returns
returns c =
    let s = c.args.self.now in
    let h = c.requires in
    cut s.starts.now s.rows.now c.args.x (s.laid.rise c.args.x h) (s.laid.fit c.args.x h)
