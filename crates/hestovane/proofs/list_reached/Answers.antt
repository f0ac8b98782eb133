-- As many answers as the summary has classes.
use Rattle.std.proofs.Common.{◌∙◌, sym, false, replicate, arith}
use lib.ListN.{length-replicate}
use lib.Seq.{length-take-le}
use Rattle.header.proofs.File.{sized_file}
use Rattle.hestovane.proofs.list_reached.Goals as goal

pub slice_bounds-held-end : goal.slice_bounds-held-end
slice_bounds-held-end c = omega (arith, c.classes-c.ensures.0, (sized_file _ c.args.s.now.well).few_classes)

pub slice_bounds-list_answered-end : goal.slice_bounds-list_answered-end
slice_bounds-list_answered-end c =
    sym (length-take-le c.classes-c.result (replicate 1024 false) (omega (arith, c.classes-c.ensures.0, length-replicate 1024 false, (sized_file _ c.args.s.now.well).few_classes)))

pub list_answered-requires : goal.list_answered-requires
list_answered-requires c =
    (c.requires, length-take-le c.classes-c.result (replicate 1024 false) (omega (arith, c.classes-c.ensures.0, length-replicate 1024 false, (sized_file _ c.args.s.now.well).few_classes)) ∙ c.classes-c.ensures.0)
