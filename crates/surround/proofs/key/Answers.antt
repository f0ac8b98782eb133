-- The parts of the key are what the accessors say of the link.
use Rattle.surround.proofs.Keys.{key_made}
use native.Mathlib.Omega.{arith}
use mathlib.Core.Path.{◌∙◌}
use Rattle.surround.proofs.key.Goals as goal

pub overflow_cast-class : goal.overflow_cast-class
overflow_cast-class c =
    let near = c.near.ensures in
    let far = c.far.ensures in
    let small = c.requires.1.small c.index.result (omega (arith, far.1, c.index.ensures)) in
    omega arith

pub overflow_add-result-2 : goal.overflow_add-result-2
overflow_add-result-2 c =
    let near = c.near.ensures in
    let far = c.far.ensures in
    let small = c.requires.1.small c.index.result (omega (arith, far.1, c.index.ensures)) in
    omega (arith, near.1, c.index-near.ensures, c.way_number-label.ensures)

pub returns : goal.returns
returns c =
    key_made _ _ _ _ _ _ _
    (c.index-near.ensures ∙ c.near.ensures.0)
    c.way_number-label.ensures.0 c.label.ensures.0
    (c.index.ensures ∙ c.far.ensures.0)
