-- What was found well formed has its keys at the front, and they ascend.
use Rattle.std.proofs.Common.{true, ◌∙◌, sym, arith}
use Rattle.std.proofs.lemmas.List.{length-take-le}
use Rattle.meaning.specs.SummaryFile.{summary_in}
use Rattle.theory.proofs.ShapeLaws.{well_parts}
use Rattle.theory.proofs.OneLaws.{order_parts}
use Rattle.header.specs.Keyed.{Keyed}
use Rattle.header.proofs.File.{when_exact, sized_file}
use Rattle.matching.proofs.Laws.{keyed_rises}
use Rattle.wellformed.proofs.judge.Goals as goal

pub slice_bounds-keys-end : goal.slice_bounds-keys-end
slice_bounds-keys-end c =
    let s = c.in-Some.summary in
    let well = sym (when_exact _ s.exact) ∙ sym c.fine.ensures.0 ∙ c.if-fine.true in
    sym (length-take-le c.rows.result c.fine.new.keys (omega (arith, c.rows.ensures.0, (sized_file s.bytes.now well).few_rows, c.fine.auto.keys)))

pub invariant_of-keys : goal.invariant_of-keys
invariant_of-keys c =
    let s = c.in-Some.summary in
    let S = summary_in s.bytes.now in
    let well = sym c.fine.ensures.0 ∙ c.if-fine.true in
    let kept : Keyed true S c.fine.new.keys = rw c.if-fine.true at c.fine.ensures.1 in
    record { ascend = keyed_rises S c.rows.result c.fine.new.keys c.rows.ensures.0 kept (order_parts S (well_parts S well).3).0 }
