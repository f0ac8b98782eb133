-- The words below j are copied.
use mathlib.Core.Path.{◌≡◌, ap, ◌∙◌}
use Prim.Native.Nat.{ℕ, ◌*◌}
use native.Mathlib.Omega.{arith}
use lib.Seq.{sets}
use Rattle.filed.specs.Copied.{copied}
use Rattle.filed.proofs.Laws.{copied_none, copied_next}
use Rattle.filed.proofs.copy_rows.Goals as goal

pub loop-j-init : goal.loop-j-init
loop-j-init c = (omega arith, c.requires.2, copied_none _ _ _ _ _)

pub put_row-requires : goal.put_row-requires
put_row-requires c =
    (c.requires.0.small c.loop-j.j (omega arith), omega (arith, c.requires), c.loop-j.invariant.1)

pub loop-j-preserved : goal.loop-j-preserved
loop-j-preserved c =
    let a = c.args in
    (omega arith, omega arith, copied_next a.rows.now a.class a.from a.out.now a.at c.loop-j.j c.loop-j.invariant.2 c.put_row.ensures)

pub returns : goal.returns
returns c =
    let a = c.args in
    let e : c.loop-j.j ≡ a.m = omega arith in
    c.loop-j.invariant.2 ∙ ap (λ (i : ℕ). sets a.out.now (4 * a.at) (copied a.rows.now a.class a.from i)) e
