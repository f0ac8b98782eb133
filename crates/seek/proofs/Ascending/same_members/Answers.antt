-- No key is marked at first.
use Rattle.std.proofs.Common.{◌≤◌, ◌∙◌, false, length, replicate, arith}
use lib.ListN.{get_or-replicate, length-replicate}
use lib.Seq.{length-take-le, get_or-take}
use Rattle.seek.proofs.Ascending.same_members.Goals as goal

pub same_members-requires : goal.same_members-requires
same_members-requires c =
    let r = length c.args.self.now.keys.now in
    let none = replicate 4096 false in
    let h : r ≤ length none = omega (arith, length-replicate 4096 false, c.requires) in
    (length-take-le r none h, λ i k. get_or-take r none i false k ∙ get_or-replicate 4096 i false false (omega (arith, k, c.requires)))
