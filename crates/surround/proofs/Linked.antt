-- The table of the functions here, and that a look-up that holds it finds what other crates call: for the crate linked.
use mathlib.Core.Bool.{true}
use prog.Wired.{Code}
use prog.Linked.{Tree, World, Holds, in_world}
use prog.LinkedThreads.{HasT}
use Rattle.surround.proofs.TheLink
use Rattle.surround.proofs.put_item_rows.Symbol as put_item_rows-symbol

abbrev pub table : Tree
table = TheLink.table

abbrev pub Below : World → Type 0
Below = TheLink.Below

abbrev pub Found : Code → Type 0
Found c = (W : World) → Holds W "surround" table → Below W → HasT (in_world W) true c

pub has-put_item_rows : Found put_item_rows-symbol.code
has-put_item_rows = TheLink.linked-surround::put_item_rows
