-- The keys of the class links and of the images; the argument is `images`.
use Rattle.std.proofs.Common.{◌∙◌, ap, arith}
use mathlib.Core.Path.{ap₂}
use Rattle.meaning.specs.Count.{tab}
use Rattle.meaning.specs.Register.{link_of}
use Rattle.meaning.specs.Summary.{class_at}
use Rattle.meaning.specs.RegisterFile.{register_in}
use Rattle.meaning.specs.SummaryFile.{summary_in}
use Rattle.surround.proofs.Keys.{of_fine}
use Rattle.seek.specs.Keys.{same_members}
use Rattle.images.specs.Keys.{key_by}
use Rattle.images.proofs.Images.{images, links_ascend}
use Rattle.images.proofs.same_links.Goals as goal

pub invariant_of-links : goal.invariant_of-links
invariant_of-links c =
    let p = c.args.p.now in
    record { ascend = rw c.put_link_keys.ensures (links_ascend (summary_in p.summary.bytes.now) p.proposed.well) }

pub same_members-requires : goal.same_members-requires
same_members-requires c = omega (arith, c.requires, c.put_link_keys.auto.keys, c.args.p.now.proposed.few_links)

pub returns : goal.returns
returns c =
    let p = c.args.p.now in
    let o = p.register.accepted in
    let R = register_in p.register.bytes.now in
    let S = summary_in p.summary.bytes.now in
    let links = c.put_image_keys.ensures ∙ ap (tab (λ j. key_by (class_at S) (link_of R j))) o.links_are in
    c.same_members.ensures
    ∙ ap₂ same_members c.put_link_keys.ensures links
    ∙ images S R (of_fine _ _ _ o) p.proposed.well p.proposed.few_classes (λ x h. p.proposed.class_in x (omega (arith, o.items_are)))
