-- The table of the functions here, and that a look-up that holds it finds what other crates call: for the crate linked.
use mathlib.Core.Bool.{true}
use prog.Wired.{Code}
use prog.Linked.{Tree, World, Holds, in_world}
use prog.LinkedThreads.{HasT}
use Rattle.window.proofs.TheLink
use Rattle.window.proofs.lowest_of.Symbol as lowest_of-symbol
use Rattle.window.proofs.put_lowest.Symbol as put_lowest-symbol
use Rattle.window.proofs.rows_of.Symbol as rows_of-symbol

abbrev pub table : Tree
table = TheLink.table

abbrev pub Below : World → Type 0
Below = TheLink.Below

abbrev pub Found : Code → Type 0
Found c = (W : World) → Holds W "window" table → Below W → HasT (in_world W) true c

pub has-lowest_of : Found lowest_of-symbol.code
has-lowest_of = TheLink.linked-window::lowest_of

pub has-put_lowest : Found put_lowest-symbol.code
has-put_lowest = TheLink.linked-window::put_lowest

pub has-rows_of : Found rows_of-symbol.code
has-rows_of = TheLink.linked-window::rows_of
