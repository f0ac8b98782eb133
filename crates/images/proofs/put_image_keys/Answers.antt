-- The keys of the images of the links passed.
use Rattle.std.proofs.Common.{◌∙◌, ap, arith}
use Rattle.meaning.specs.Summary.{class_at}
use Rattle.meaning.specs.SummaryFile.{summary_in}
use Rattle.order.proofs.Front.{filled_next, tab_filled}
use Rattle.images.proofs.Images.{key_made}
use Rattle.images.proofs.put_image_keys.Goals as goal

pub class_of-requires : goal.class_of-requires
class_of-requires c = omega (arith, c.source.ensures.1, c.args.p.now.proposed.items_same)

pub class_of-requires-in-loop-j : goal.class_of-requires-in-loop-j
class_of-requires-in-loop-j c = omega (arith, c.target.ensures.1, c.args.p.now.proposed.items_same)

pub loop-j-preserved : goal.loop-j-preserved
loop-j-preserved c =
    let class = class_at (summary_in c.args.p.now.summary.bytes.now) in
    let source = c.class_of.ensures ∙ ap class c.source.ensures.0 in
    let target = c.class_of-in-loop-j.ensures ∙ ap class c.target.ensures.0 in
    let key = key_made class _ _ _ _ _ source c.label.ensures.0 target c.key_of.ensures in
    filled_next _ _ c.loop-j.j _ (omega arith) key c.loop-j.invariant

pub returns : goal.returns
returns c = tab_filled _ _ _ (omega arith) (λ i h. c.loop-j.invariant i (omega arith))
