-- The keys before low are less than the key, and none from high on is.
use Rattle.std.proofs.Common.{◌+◌, ◌-◌, ◌/◌, arith}
use Rattle.seek.proofs.Laws.{parted_up, parted_down, parted_stands}
use Rattle.seek.proofs.Ascending.halve.Goals as goal

pub loop-low-preserved-then-self-middle : goal.loop-low-preserved-then-self-middle
loop-low-preserved-then-self-middle c =
    let l = c.loop-low in
    let m = l.low + (l.high - l.low) / 2 in
    let keys = c.args.self.now in
    (omega arith, omega arith, parted_up keys.keys.now c.args.key l.low l.high m keys.ascend l.invariant.2 (omega arith) c.if-self-middle.true)

pub loop-low-preserved : goal.loop-low-preserved
loop-low-preserved c =
    let l = c.loop-low in
    let m = l.low + (l.high - l.low) / 2 in
    let keys = c.args.self.now in
    (omega arith, omega arith, parted_down keys.keys.now c.args.key l.low l.high m keys.ascend l.invariant.2 c.if-self-middle.false)

pub returns : goal.returns
returns c = let l = c.loop-low in parted_stands _ _ l.low l.high (omega arith) (omega arith) l.invariant.2
