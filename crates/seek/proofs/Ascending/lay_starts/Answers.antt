-- The starts of the classes below c are laid, and the i keys passed are of those classes.
use Rattle.std.proofs.Common.{◌≡◌, refl, ◌≤◌, ◌<◌, length, get_or, arith, length-set}
use Rattle.seek.specs.Keys.{key_class}
use Rattle.seek.proofs.Laws.{class_most, begun_none, begun_pass, begun_lay, begun_laid}
use Rattle.seek.proofs.Ascending.lay_starts.Goals as goal

pub loop-i-init : goal.loop-i-init
loop-i-init c = (omega arith, omega arith, refl, begun_none _ _)

pub loop-i-preserved-then-class_of-c : goal.loop-i-preserved-then-class_of-c
loop-i-preserved-then-class_of-c c =
    let l = c.loop-i in
    let t : key_class (get_or c.args.self.now.keys.now l.i 0) < l.c = omega (arith, c.class_of.ensures, c.if-class_of-c.true) in
    (omega arith, l.invariant.1, l.invariant.2, begun_pass _ _ _ _ t l.invariant.3)

pub bounds-starts-c : goal.bounds-starts-c
bounds-starts-c c = omega (arith, c.class_of.ensures, c.if-class_of-c.false, class_most (get_or c.args.self.now.keys.now c.loop-i.i 0))

pub loop-i-smaller : goal.loop-i-smaller
loop-i-smaller c = omega (arith, c.class_of.ensures, c.if-class_of-c.false, class_most (get_or c.args.self.now.keys.now c.loop-i.i 0))

pub loop-i-preserved : goal.loop-i-preserved
loop-i-preserved c =
    let l = c.loop-i in
    let keys = c.args.self.now in
    let most = class_most (get_or keys.keys.now l.i 0) in
    let h : l.c < 1024 = omega (arith, c.class_of.ensures, c.if-class_of-c.false, most) in
    let t : l.c ≤ key_class (get_or keys.keys.now l.i 0) = omega (arith, c.class_of.ensures, c.if-class_of-c.false) in
    (l.invariant.0, omega arith, simp length-set l.invariant.2, begun_lay _ _ _ _ (omega (arith, l.invariant.2, c.requires.1)) (omega arith) keys.ascend t l.invariant.3)

pub returns : goal.returns
returns c =
    let l = c.loop-i in
    let e : l.i ≡ length c.args.self.now.keys.now = omega arith in
    rw e at (begun_laid _ _ _ _ (omega (arith, l.invariant.1, l.invariant.2, c.requires.1)) e l.invariant.3)
