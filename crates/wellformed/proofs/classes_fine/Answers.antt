-- The first k classes are in range, and their groups are marked.
use native.Mathlib.Omega.{arith}
use mathlib.Core.Path.{sym, ◌∙◌}
use mathlib.Core.Bool.{false}
use lib.ListN.{length-set, length-replicate}
use borrow.Author.Count.{below_more}
use Rattle.meaning.specs.SummaryFile.{summary_in}
use Rattle.theory.proofs.ShapeLaws.{class_group}
use Rattle.seek.proofs.Laws.{marked_front}
use Rattle.wellformed.proofs.Loops.{fresh_marked, one_marked, classes_by}
use Rattle.wellformed.proofs.classes_fine.Goals as goal

pub loop-k-init : goal.loop-k-init
loop-k-init c = record { fine = λ i h. absurd (omega arith); marked = fresh_marked _; long = length-replicate 1024 false }

pub loop-k-preserved : goal.loop-k-preserved
loop-k-preserved c =
    let l = c.loop-k.invariant in
    let fine = sym c.class_fine.ensures ∙ c.if-not-class_fine.false in
    record {
      fine = below_more _ _ l.fine fine;
      marked = one_marked _ _ _ _ (c.index.ensures ∙ c.group.ensures) (omega (arith, class_group _ _ fine)) l.marked;
      long = simp length-set l.long;
    }

pub returns : goal.returns
returns c =
    let l = c.loop-k.invariant in
    let groups = classes_by (summary_in c.args.s.now.bytes.now) _ _ _ c.groups-g.ensures (omega arith) (omega arith) l.fine l.marked in
    c.all_marked.ensures ∙ marked_front c.loop-k.used c.groups-g.result (omega (arith, l.long)) ∙ groups
