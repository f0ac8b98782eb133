-- The table of the functions here, and that a look-up that holds it finds what other crates call: for the crate linked.
use mathlib.Core.Bool.{true}
use prog.Wired.{Code}
use prog.Linked.{Tree, World, Holds, in_world}
use prog.LinkedThreads.{HasT}
use Rattle.listed.proofs.TheLink
use Rattle.listed.proofs.put_items.Symbol as put_items-symbol
use Rattle.listed.proofs.put_list.Symbol as put_list-symbol

abbrev pub table : Tree
table = TheLink.table

abbrev pub Below : World → Type 0
Below = TheLink.Below

abbrev pub Found : Code → Type 0
Found c = (W : World) → Holds W "listed" table → Below W → HasT (in_world W) true c

pub has-put_items : Found put_items-symbol.code
has-put_items = TheLink.linked-listed::put_items

pub has-put_list : Found put_list-symbol.code
has-put_list = TheLink.linked-listed::put_list
