-- The items passed are done (`Under`); once all are, the rows are the summary's.
use Rattle.std.proofs.Common.{◌≡◌, ◌+◌, ap, ◌∙◌, length, arith}
use Rattle.filed.proofs.Laws.{none_done, starts_long, rise, ends, words_stand, first_turn, other_turn, all_done}
use Rattle.filed.proofs.row_numbers.Goals as goal
use Rattle.filed.proofs.row_numbers.Goals.{then-class-seen, else-class-seen}

pub loop-x-init : goal.loop-x-init
loop-x-init c = (c.requires.1, none_done _ _ _ _ _)

pub bounds-starts-x : goal.bounds-starts-x
bounds-starts-x c = omega (arith, starts_long _ _ _ _ _ _ c.requires.0.3)

pub bounds-starts-x-then-class-seen : goal.bounds-starts-x-then-class-seen
bounds-starts-x-then-class-seen c = omega (arith, starts_long _ _ _ _ _ _ c.requires.0.3)

pub overflow_sub-m : goal.overflow_sub-m
overflow_sub-m c = omega (arith, rise _ _ _ _ _ _ c.requires.0.3 c.loop-x.x (omega arith))

pub copy_rows-requires : goal.copy_rows-requires
copy_rows-requires c =
    let g = c.requires.0.3 in
    let x = c.loop-x.x in
    let up = rise _ _ _ _ _ _ g x (omega arith) in
    let most = ends _ _ _ _ _ _ g (x + 1) (omega arith) in
    (words_stand _ _ _ _ _ _ g 0 x (omega arith), omega (arith, c.loop-x.invariant.1.room, most.0), c.loop-x.invariant.0)

pub loop-x-preserved : goal.loop-x-preserved
loop-x-preserved c =
    let g = c.requires.0.3 in
    elim c.if-class-seen.branch [
      | then-class-seen w ↦ (
        ap length w.out-is ∙ omega arith,
        first_turn _ _ _ _ _ _ g _ _ _ _ _ (omega arith) c.loop-x.invariant.1 w.if-class-seen.true w.copy_rows.ensures w.out-is w.seen-is w.at-is,
      )
      | else-class-seen w ↦ (
        ap length w.out-is ∙ c.loop-x.invariant.0,
        other_turn _ _ _ _ _ _ g _ _ _ _ _ (omega arith) c.loop-x.invariant.1 w.if-class-seen.false w.out-is w.seen-is w.at-is,
      )
    ]

pub returns : goal.returns
returns c =
    let e : c.loop-x.x ≡ length c.args.classes.now = omega arith in
    λ R µ gs g. all_done R µ gs _ _ _ g _ _ _ _ c.requires.1 (rw e at c.loop-x.invariant.1)
