-- Two calls; the argument is `step_numbers`.
use native.Mathlib.Omega.{arith}
use mathlib.Core.Path.{◌≡◌, refl, ap, ◌∙◌}
use lib.ListN.{length}
use Rattle.meaning.specs.Level.{class_count}
use Rattle.meaning.specs.RegisterFile.{register_in}
use Rattle.surround.proofs.Keys.{list_few}
use Rattle.surround.proofs.Laws.{rows_stand}
use Rattle.alike.proofs.Laws.{rows_laid, step_numbers}
use Rattle.alike.proofs.step.Goals as goal

pub invariant_of-signatures : goal.invariant_of-signatures
invariant_of-signatures c =
    let a = c.args in
    let reg = a.reg.now in
    let cs = a.cs.now in
    let r = c.put_item_rows.ensures in
    let e : length cs ≡ reg.items = c.requires.given.1 in
    record { laid = rw e (rows_laid (register_in reg.bytes.now) a.mu cs reg.items _ _ _ _ r.1 r.0 cs reg.few_items (omega arith) (omega (arith, c.put_item_rows.auto.starts, c.requires.room.for_starts))) }

pub returns : goal.returns
returns c =
    let a = c.args in
    let reg = a.reg.now in
    let R = register_in reg.bytes.now in
    let cs = a.cs.now in
    let r = c.put_item_rows.ensures in
    let long : length cs ≡ reg.items = c.requires.given.1 in
    let k = rw long at c.number.ensures in
    let e = step_numbers R a.mu cs reg.items _ _ _ _ r.1 r.0 (omega (arith, c.requires.given)) (list_few cs reg.items c.requires.given.0 long) cs (λ x h. refl) in
    (k.0 ∙ ap class_count e, k.1 ∙ e, rows_stand R a.mu cs reg.items _ _ _ _ r.1 r.0)
