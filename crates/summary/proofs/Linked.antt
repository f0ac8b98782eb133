-- The table of the functions here, and that a look-up that holds it finds what other crates call: for the crate linked.
use mathlib.Core.Bool.{true}
use prog.Wired.{Code}
use prog.Linked.{Tree, World, Holds, in_world}
use prog.LinkedThreads.{HasT}
use Rattle.summary.proofs.TheLink
use Rattle.summary.proofs.file.Symbol as file-symbol
use Rattle.summary.proofs.head.Symbol as head-symbol

abbrev pub table : Tree
table = TheLink.table

abbrev pub Below : World → Type 0
Below = TheLink.Below

abbrev pub Found : Code → Type 0
Found c = (W : World) → Holds W "summary" table → Below W → HasT (in_world W) true c

pub has-file : Found file-symbol.code
has-file = TheLink.linked-summary::file

pub has-head : Found head-symbol.code
has-head = TheLink.linked-summary::head
