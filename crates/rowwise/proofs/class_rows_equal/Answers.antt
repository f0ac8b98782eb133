-- Two searches find the rows of the class; the argument is `compared`.
use mathlib.Core.Path.{◌∙◌}
use native.Mathlib.Omega.{arith}
use Rattle.rowwise.proofs.Window.{searched, in_order, other_number, compared}
use Rattle.rowwise.proofs.class_rows_equal.Goals as goal

pub overflow_sub-high : goal.overflow_sub-high
overflow_sub-high c =
    let s = c.args.s.now in
    (in_order _ _ (searched _ _ s.well s.keyed) c.args.class.0 _ _ c.find-low.ensures c.find-high.ensures).0

pub returns-then-high-low : goal.returns-then-high-low
returns-then-high-low c =
    let s = c.args.s.now in
    other_number _ _ (searched _ _ s.well s.keyed) c.args.class.0 _ _ c.find-low.ensures c.find-high.ensures _ _ _ c.if-high-low.true

pub words_equal-requires : goal.words_equal-requires
words_equal-requires c =
    let s = c.args.s.now in
    let o = in_order _ _ (searched _ _ s.well s.keyed) c.args.class.0 _ _ c.find-low.ensures c.find-high.ensures in
    let same = c.if-high-low.false in
    (omega (arith, o, same), omega (arith, c.requires.0, c.requires.1))

pub returns : goal.returns
returns c =
    let s = c.args.s.now in
    c.words_equal.ensures
    ∙ compared _ _ (searched _ _ s.well s.keyed) c.args.class.0 _ _ c.find-low.ensures c.find-high.ensures _ _ _ c.if-high-low.false
