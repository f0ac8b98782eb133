-- Class links are judged as links are, from where the header says that they stand.
use mathlib.Core.Path.{◌∙◌}
use Rattle.wellformed.proofs.Laws.{links_judged}
use Rattle.wellformed.proofs.links_fine.Goals as goal

pub returns : goal.returns
returns c =
    c.fine.ensures
    ∙ links_judged _ _ _ _ c.args.s.now.exact c.two.ensures
    c.links.ensures.0 c.classes.ensures.0
