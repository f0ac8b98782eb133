-- Row 0 is the question's own, so its word at the item is the answer.
use lib.ListN.{get_or}
use Prim.Native.Nat.{ℕ, ◌+◌, ◌*◌}
use mathlib.Core.Path.{◌≡◌, ap, ◌∙◌}
use mathlib.Core.Bool.{false}
use native.Mathlib.Omega.{arith}
use Rattle.std.proofs.Common.{Ok}
use Rattle.inquiry.proofs.Laws.{known_all}
use Rattle.inquiry.proofs.ask_all.Goals as goal

pub returns : goal.returns
returns c =
    let e : c.index-at.result ≡ 1024 * 0 + c.args.x.0 = omega arith in
    ap Ok (ap (λ (i : ℕ). get_or c.fill.new.table i false) e ∙ known_all _ _ c.args.reg.now.items _ _ c.requires.0 c.requires.1 c.in-Ok.ensures)
