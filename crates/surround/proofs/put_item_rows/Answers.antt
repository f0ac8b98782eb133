-- Two calls; the argument is `rows_written` and `starts_written`.
use mathlib.Core.Path.{◌≡◌, ap, ◌∙◌}
use mathlib.Core.List.{List, ◌++◌}
use Prim.Native.Nat.{ℕ, ◌+◌, ◌*◌}
use lib.ListN.{length, drop}
use Rattle.order.proofs.Laws.{length_sorted, sorted_up}
use Rattle.surround.proofs.Laws.{rows_written, starts_written}
use Rattle.surround.proofs.put_item_rows.Goals as goal

pub put_rows-requires-clause-sorted : goal.put_rows-requires-clause-sorted
put_rows-requires-clause-sorted c = sorted_up _ _ _ c.sort_keys.ensures

pub returns : goal.returns
returns c =
    let a = c.args in
    let reg = a.reg.now in
    let cs = a.cs.now in
    let r = c.put_rows.ensures in
    let e = c.sort_keys.ensures in
    let k : length c.sort_keys.new.keys ≡ 2 * reg.links = ap length e ∙ length_sorted _ (2 * reg.links) in (
      rows_written reg.bytes.now reg.items reg.links reg.accepted cs c.requires.given.0 c.requires.given.1 a.mu _ _ k e _ _ _ r.0 r.1,
      r.2
          ∙ ap (λ (l : List ℕ). l ++ drop (reg.items + 1) a.starts.now)
          (starts_written reg.bytes.now reg.items reg.links reg.accepted cs c.requires.given.0 c.requires.given.1 a.mu _ _ k e),
    )
