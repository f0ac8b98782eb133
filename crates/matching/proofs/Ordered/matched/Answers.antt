-- The keys of the rows, and the keys that the class links ask for, seen out and seen in.
use native.Mathlib.Omega.{arith}
use mathlib.Core.Path.{◌∙◌}
use Rattle.matching.proofs.Laws.{match_by, keyed_rises}
use Rattle.matching.proofs.Ordered.matched.Goals as goal

pub invariant_of-rows : goal.invariant_of-rows
invariant_of-rows c = let s = c.args.self.now in record { ascend = keyed_rises _ _ _ c.rows.ensures.0 s.keyed s.rising }

pub returns : goal.returns
returns c =
    let s = c.args.self.now in
    c.same_members.ensures
    ∙ match_by _ s.in_range s.few_groups _ _ _ _ _ c.rows.ensures.0 s.keyed _ c.links-e.ensures.0 (omega arith)
    c.put_asked.ensures
    c.put_asked-2.ensures
