-- Two calls; the numbers by marks are those of level 0 (`marked`).
use native.Mathlib.Omega.{arith}
use lib.ListN.{length}
use lib.Seq.{length-take-le}
use mathlib.Core.Path.{◌≡◌, ap, ◌∙◌}
use Rattle.meaning.specs.Level.{class_count}
use Rattle.meaning.specs.RegisterFile.{register_in}
use Rattle.marked.proofs.Laws.{marked}
use Rattle.marked.proofs.by_marks.Goals as goal

pub returns : goal.returns
returns c =
    let reg = c.args.reg.now in
    let ms = c.read_marks.new.marks in
    let n : length ms ≡ reg.items = c.read_marks.auto.marks ∙ length-take-le reg.items _ (omega arith) in
    let k = rw n at c.number_by_marks.ensures in
    λ µ.
    let e = marked (register_in reg.bytes.now) µ reg.items reg.accepted.items_are ms c.read_marks.ensures in
    (k.0 ∙ ap class_count e, k.1 ∙ e)
