-- The groups, the rows of the items against them, and the comparison; the argument is `items_held`.
use mathlib.Core.Path.{ap, ◌∙◌}
use native.Mathlib.Omega.{arith}
use Rattle.meaning.specs.Count.{tab}
use Rattle.meaning.specs.Summary.{group_at}
use Rattle.meaning.specs.SummaryFile.{summary_in}
use Rattle.proposed.proofs.Laws.{proposed}
use Rattle.rowwise.proofs.Items.{groups_long, groups_listed, starts_rise, items_held}
use Rattle.rowwise.proofs.rows_held.Goals as goal

pub put_item_rows-requires-clause-given : goal.put_item_rows-requires-clause-given
put_item_rows-requires-clause-given c =
    let reg = c.args.reg.now in
    let p = proposed _ _ c.args.s.now.well c.requires.0 in
    let e = c.put_groups.ensures ∙ ap (tab (group_at (summary_in c.args.s.now.summary.bytes.now))) c.requires.0 in
    (groups_listed _ _ _ reg.accepted _ p _ e, groups_long _ _ _ reg.accepted _ p _ e, omega (arith, p.near_low, c.requires.1))

pub item_rows_equal-requires : goal.item_rows_equal-requires
item_rows_equal-requires c =
    let reg = c.args.reg.now in
    let p = proposed _ _ c.args.s.now.well c.requires.0 in
    let e = c.put_groups.ensures ∙ ap (tab (group_at (summary_in c.args.s.now.summary.bytes.now))) c.requires.0 in
    let r = c.put_item_rows.ensures in
    (c.requires.0, starts_rise _ _ _ reg.accepted _ p _ e _ c.requires.1 _ _ _ _ r.1 r.0 (omega arith))

pub returns : goal.returns
returns c =
    let reg = c.args.reg.now in
    let p = proposed _ _ c.args.s.now.well c.requires.0 in
    let e = c.put_groups.ensures ∙ ap (tab (group_at (summary_in c.args.s.now.summary.bytes.now))) c.requires.0 in
    let r = c.put_item_rows.ensures in
    c.item_rows_equal.ensures ∙ items_held _ _ _ reg.accepted _ p _ e _ c.requires.1 _ _ _ _ r.1 r.0
