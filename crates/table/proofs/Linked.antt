-- The table of the functions here, and that a look-up that holds it finds what other crates call: for the crate linked.
use mathlib.Core.Bool.{true}
use prog.Wired.{Code}
use prog.Linked.{Tree, World, Holds, in_world}
use prog.LinkedThreads.{HasT}
use Rattle.table.proofs.TheLink
use Rattle.table.proofs.count.Symbol as count-symbol
use Rattle.table.proofs.put_not.Symbol as put_not-symbol
use Rattle.table.proofs.put_pair.Symbol as put_pair-symbol
use Rattle.table.proofs.put_reached.Symbol as put_reached-symbol
use Rattle.table.proofs.put_true.Symbol as put_true-symbol

abbrev pub table : Tree
table = TheLink.table

abbrev pub Below : World → Type 0
Below = TheLink.Below

abbrev pub Found : Code → Type 0
Found c = (W : World) → Holds W "table" table → Below W → HasT (in_world W) true c

pub has-count : Found count-symbol.code
has-count = TheLink.linked-table::count

pub has-put_not : Found put_not-symbol.code
has-put_not = TheLink.linked-table::put_not

pub has-put_pair : Found put_pair-symbol.code
has-put_pair = TheLink.linked-table::put_pair

pub has-put_reached : Found put_reached-symbol.code
has-put_reached = TheLink.linked-table::put_reached

pub has-put_true : Found put_true-symbol.code
has-put_true = TheLink.linked-table::put_true
