-- Every needed number is a key, and every key is marked.
use Rattle.std.proofs.Common.{sym, ap, ◌∙◌, false, get_or, arith}
use Rattle.meaning.specs.Count.{all}
use Rattle.seek.proofs.Laws.{members, members_no}
use Rattle.seek.proofs.ByClass.same_members.Goals as goal

pub returns-then-not-mark_all : goal.returns-then-not-mark_all
returns-then-not-mark_all c = sym (members_no _ _ (sym c.mark_all.ensures.0 ∙ c.if-not-mark_all.true))

pub returns : goal.returns
returns c =
    let f = c.mark_all in
    let yes = c.if-not-mark_all.false in
    c.all_marked.ensures
    ∙ ap (all (λ i. get_or f.new.marked i false)) (omega arith)
    ∙ members _ _ f.new.marked (sym f.ensures.0 ∙ yes) (f.ensures.1 yes)
