-- Each kind of entry writes the row that its tree asks for; no entry of a well-formed question is malformed.
use mathlib.Core.Path.{sym, ap, ◌∙◌}
use mathlib.Core.Option.{some}
use lib.IntN.{ℤ}
use Rattle.meaning.specs.declared.Kind.TheVariants.{Literal}
use Rattle.entry.proofs.Laws.{literal_back, literal_read}
use Rattle.inquiry.proofs.Laws.{known_true, known_literal, known_not, known_least, entry_stands, not_below, least_below, register_fine}
use Rattle.inquiry.proofs.put_entry.Goals as goal

pub returns-in_default : goal.returns-in_default
returns-in_default c = entry_stands _ c.requires.1 _ c.requires.2 c.in_default.ensures.entry

pub put_literal-requires : goal.put_literal-requires
put_literal-requires c =
    let at = sym c.in-Some.ensures.entry ∙ ap some c.in-Literal.is in
    let small = literal_read _ _ at in
    (c.requires.0, rw (literal_back _ _ at) small.0, rw (literal_back _ _ at) small.1)

pub put_not-requires : goal.put_not-requires
put_not-requires c =
    let at = sym c.in-Some.ensures.entry ∙ ap some c.in-Not.is in
    record { few = c.requires.0.few; below = not_below _ c.requires.1 _ at; long = c.requires.0.long }

pub put_at_least-requires : goal.put_at_least-requires
put_at_least-requires c =
    let at = sym c.in-Some.ensures.entry ∙ ap some c.in-AtLeast.is in
    record { few = c.requires.0.few; below = least_below _ c.requires.1 _ _ _ _ at; long = c.requires.0.long }

pub returns-in-True : goal.returns-in-True
returns-in-True c = known_true _ _ _ _ _ _ c.requires.3 c.put_true.ensures (sym c.in-Some.ensures.entry ∙ ap some c.in-True.is)

pub returns-in-Literal : goal.returns-in-Literal
returns-in-Literal c =
    let at = sym c.in-Some.ensures.entry ∙ ap some c.in-Literal.is in
    known_literal _ _ _ _ _ _ c.requires.3 _ c.put_literal.ensures (at ∙ ap (λ (z : ℤ). some (Literal z)) (sym (literal_back _ _ at)))

pub returns-in-Not : goal.returns-in-Not
returns-in-Not c = known_not _ _ _ _ _ _ c.requires.3 c.put_not.ensures (sym c.in-Some.ensures.entry ∙ ap some c.in-Not.is)

pub returns-in-AtLeast : goal.returns-in-AtLeast
returns-in-AtLeast c =
    let r = c.args.reg.now.accepted in
    known_least _ _ _ _ _ _ c.requires.3 (register_fine _ r.fine) r.items_are _ _ _ c.put_at_least.ensures
    (sym c.in-Some.ensures.entry ∙ ap some c.in-AtLeast.is)
