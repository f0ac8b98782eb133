-- The table of the functions here, and that a look-up that holds it finds what other crates call: for the crate linked.
use mathlib.Core.Bool.{true}
use prog.Wired.{Code}
use prog.Linked.{Tree, World, Holds, in_world}
use prog.LinkedThreads.{HasT}
use Rattle.range.proofs.TheLink
use Rattle.range.proofs.in_range.Symbol as in_range-symbol
use Rattle.range.proofs.within.Symbol as within-symbol

abbrev pub table : Tree
table = TheLink.table

abbrev pub Below : World → Type 0
Below = TheLink.Below

abbrev pub Found : Code → Type 0
Found c = (W : World) → Holds W "range" table → Below W → HasT (in_world W) true c

pub has-in_range : Found in_range-symbol.code
has-in_range = TheLink.linked-range::in_range

pub has-within : Found within-symbol.code
has-within = TheLink.linked-range::within
