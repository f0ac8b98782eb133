-- The keys before the place are less than the key.
use Rattle.std.proofs.Common.{◌≡◌, refl, arith}
use Rattle.seek.proofs.Laws.{parted_up, parted_down, parted_stands}
use Rattle.seek.proofs.Ascending.step.Goals as goal

pub returns-then-key-self : goal.returns-then-key-self
returns-then-key-self c =
    let l = c.loop-at in
    let keys = c.args.self.now in
    parted_stands _ _ l.at l.at refl (omega arith) (parted_down keys.keys.now c.args.key l.at c.args.to l.at keys.ascend l.invariant c.if-key-self.true)

pub loop-at-preserved : goal.loop-at-preserved
loop-at-preserved c =
    let l = c.loop-at in
    let keys = c.args.self.now in
    parted_up keys.keys.now c.args.key l.at c.args.to l.at keys.ascend l.invariant (omega arith) c.if-key-self.false

pub returns : goal.returns
returns c =
    let l = c.loop-at in
    let e : l.at ≡ c.args.to = omega arith in
    parted_stands _ _ c.args.to c.args.to refl (omega arith) (rw e at l.invariant)
