-- The second operand stands where the first ends, so its row is there; no span of a well-formed question is refused.
use native.Mathlib.Omega.{arith}
use Rattle.inquiry.proofs.Laws.{known_pair, first_stands, first_spanned}
use Rattle.inquiry.proofs.put_operands.Goals as goal

pub returns-in_default : goal.returns-in_default
returns-in_default c = first_stands _ c.requires.1 c.args.any c.args.j c.requires.2 _ c.in_default.ensures

pub put_pair-requires : goal.put_pair-requires
put_pair-requires c =
    let o = first_spanned _ c.requires.1 c.args.any c.args.j c.requires.2 _ c.in-Ok.ensures in
    (record { few = c.requires.0.few; below = o.3; long = c.requires.0.long }, omega (arith, o.2))

pub returns : goal.returns
returns c =
    let o = first_spanned _ c.requires.1 c.args.any c.args.j c.requires.2 _ c.in-Ok.ensures in
    known_pair _ _ _ _ _ _ c.requires.3 c.args.any _ _ o.1 c.put_pair.ensures c.requires.2
