-- The table of the functions here, and that a look-up that holds it finds what other crates call: for the crate linked.
use mathlib.Core.Bool.{true}
use prog.Wired.{Code}
use prog.Linked.{Tree, World, Holds, in_world}
use prog.LinkedThreads.{HasT}
use Rattle.rows.proofs.TheLink
use Rattle.rows.proofs.put_rows.Symbol as put_rows-symbol

abbrev pub table : Tree
table = TheLink.table

abbrev pub Below : World → Type 0
Below = TheLink.Below

abbrev pub Found : Code → Type 0
Found c = (W : World) → Holds W "rows" table → Below W → HasT (in_world W) true c

pub has-put_rows : Found put_rows-symbol.code
has-put_rows = TheLink.linked-rows::put_rows
