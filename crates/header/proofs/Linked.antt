-- The table of the functions here, and that a look-up that holds it finds what other crates call: for the crate linked.
use mathlib.Core.Bool.{true}
use prog.Wired.{Code}
use prog.Linked.{Tree, World, Holds, in_world}
use prog.LinkedThreads.{HasT}
use Rattle.header.proofs.TheLink
use Rattle.header.proofs.few.Symbol as few-symbol
use Rattle.header.proofs.read.Symbol as read-symbol

abbrev pub table : Tree
table = TheLink.table

abbrev pub Below : World → Type 0
Below = TheLink.Below

abbrev pub Found : Code → Type 0
Found c = (W : World) → Holds W "header" table → Below W → HasT (in_world W) true c

pub has-few : Found few-symbol.code
has-few = TheLink.linked-header::few

pub has-read : Found read-symbol.code
has-read = TheLink.linked-header::read
