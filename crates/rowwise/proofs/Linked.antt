-- The table of the functions here, and that a look-up that holds it finds what other crates call: for the crate linked.
use mathlib.Core.Bool.{true}
use prog.Wired.{Code}
use prog.Linked.{Tree, World, Holds, in_world}
use prog.LinkedThreads.{HasT}
use Rattle.rowwise.proofs.TheLink
use Rattle.rowwise.proofs.rows_equal.Symbol as rows_equal-symbol

abbrev pub table : Tree
table = TheLink.table

abbrev pub Below : World → Type 0
Below = TheLink.Below

abbrev pub Found : Code → Type 0
Found c = (W : World) → Holds W "rowwise" table → Below W → HasT (in_world W) true c

pub has-rows_equal : Found rows_equal-symbol.code
has-rows_equal = TheLink.linked-rowwise::rows_equal
