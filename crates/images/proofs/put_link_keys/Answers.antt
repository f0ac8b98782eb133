-- The keys of the class links passed.
use Rattle.std.proofs.Common.{arith}
use Rattle.order.proofs.Front.{filled_next, tab_filled}
use Rattle.images.proofs.Images.{key_made}
use Rattle.images.proofs.put_link_keys.Goals as goal

pub loop-j-preserved : goal.loop-j-preserved
loop-j-preserved c =
    let key = key_made (λ c. c) _ _ _ _ _ c.link_source.ensures c.link_label.ensures c.link_target.ensures c.key_of.ensures in
    filled_next _ _ c.loop-j.j _ (omega arith) key c.loop-j.invariant

pub returns : goal.returns
returns c = tab_filled _ _ _ (omega arith) (λ i h. c.loop-j.invariant i (omega arith))
