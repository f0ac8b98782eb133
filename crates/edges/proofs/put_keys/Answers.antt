-- The keys of the links passed.
use Rattle.std.proofs.Common.{arith}
use Rattle.order.proofs.Front.{filled_next, tab_filled}
use Rattle.edges.proofs.put_keys.Goals as goal

pub loop-k-preserved : goal.loop-k-preserved
loop-k-preserved c = filled_next _ _ c.loop-k.k _ (omega arith) c.key_of.ensures c.loop-k.invariant

pub returns : goal.returns
returns c = tab_filled _ _ _ (omega arith) (λ i h. c.loop-k.invariant i (omega arith))
