-- The table of the functions here, and that a look-up that holds it finds what other crates call: for the crate linked.
use mathlib.Core.Bool.{true}
use prog.Wired.{Code}
use prog.Linked.{Tree, World, Holds, in_world}
use prog.LinkedThreads.{HasT}
use Rattle.filed.proofs.TheLink
use Rattle.filed.proofs.row_numbers.Symbol as row_numbers-symbol

abbrev pub table : Tree
table = TheLink.table

abbrev pub Below : World → Type 0
Below = TheLink.Below

abbrev pub Found : Code → Type 0
Found c = (W : World) → Holds W "filed" table → Below W → HasT (in_world W) true c

pub has-row_numbers : Found row_numbers-symbol.code
has-row_numbers = TheLink.linked-filed::row_numbers
