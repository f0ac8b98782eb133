-- The parts of a key as they are read; the classes are below 1,024, so it fits.
use Rattle.std.proofs.Common.{ap, ◌∙◌}
use Rattle.meaning.specs.Condense.{by}
use Rattle.edges.proofs.Laws.{key_read}
use Rattle.edges.proofs.key_of.Goals as goal

pub returns : goal.returns
returns c =
    let cs = c.args.classes.now in
    let source = c.index-source.ensures ∙ c.class_at.ensures.0 ∙ ap (by cs) c.source.ensures.0 in
    let target = c.index-target.ensures ∙ c.class_at-2.ensures.0 ∙ ap (by cs) c.target.ensures.0 in
    key_read cs _ _ _ _ source c.label-label.ensures.0 target
