-- After j steps, which the counter counts, upper has the list of level j, and lower that of the level before (`Going`).
use Rattle.alike.proofs.ByLevel.{going_next, going_on, of_level}
use native.Mathlib.Omega.{arith}
use mathlib.Core.Path.{◌∙◌}
use Rattle.meaning.specs.RegisterFile.{register_in}
use Rattle.surround.proofs.Keys.{of_fine}
use Rattle.alike.proofs.levels.Goals as goal

pub step-classes-requires-clause-given : goal.step-classes-requires-clause-given
step-classes-requires-clause-given c =
    let reg = c.args.reg.now in
    let l = c.loop in (
      of_level (register_in reg.bytes.now) c.args.mu reg.items reg.accepted.items_are l.counter _ reg.few_items (c.copy_classes.ensures ∙ l.invariant.upper_is),
      omega arith,
      omega arith,
      omega arith,
    )

pub loop-preserved : goal.loop-preserved
loop-preserved c =
    let reg = c.args.reg.now in
    let l = c.loop in
    let o = reg.accepted in
    let r = c.step-classes.ensures in
    going_next (register_in reg.bytes.now) c.args.mu reg.items o.items_are (of_fine reg.bytes.now reg.items reg.links o) l.counter
    l.lower l.upper l.groups l.classes l.starts l.rows l.invariant _ _ _ _ _ c.copy_classes.ensures r.0 r.1 r.2

pub returns-then-same_classes : goal.returns-then-same_classes
returns-then-same_classes c =
    let reg = c.args.reg.now in
    let l = c.loop in
    let o = reg.accepted in
    let fine = of_fine reg.bytes.now reg.items reg.links o in
    let R = register_in reg.bytes.now in
    let r = c.step-classes.ensures in
    let g =
    going_next R c.args.mu reg.items o.items_are fine l.counter
    l.lower l.upper l.groups l.classes l.starts l.rows l.invariant _ _ _ _ _ c.copy_classes.ensures r.0 r.1 r.2 in
    going_on R c.args.mu reg.items o.items_are fine l.counter c.args.i _ _ _ _ _ _ c.loop-test.true (c.same_classes.ensures c.if-same_classes.true) g
