-- Two searches find the rows; the argument is `window`.
use mathlib.Core.Path.{ap}
use Prim.Native.Nat.{ℕ, ◌+◌, ◌*◌}
use Rattle.window.proofs.Together.{window}
use Rattle.window.proofs.rows_of.Goals as goal

pub returns : goal.returns
returns c =
    let s = c.args.s.now in
    window _ _ s.well s.keyed _ _ _ c.requires _ _ _
    (ap (λ (w : ℕ). c.args.class.0 * 65536 + w) c.way.ensures) c.find-low.ensures c.find-high.ensures
