-- The table of the functions here, and that a look-up that holds it finds what other crates call: for the crate linked.
use mathlib.Core.Bool.{true}
use prog.Wired.{Code}
use prog.Linked.{Tree, World, Holds, in_world}
use prog.LinkedThreads.{HasT}
use Rattle.entry.proofs.TheLink
use Rattle.entry.proofs.read.Symbol as read-symbol
use Rattle.entry.proofs.shows.Symbol as shows-symbol

abbrev pub table : Tree
table = TheLink.table

abbrev pub Below : World → Type 0
Below = TheLink.Below

abbrev pub Found : Code → Type 0
Found c = (W : World) → Holds W "entry" table → Below W → HasT (in_world W) true c

pub has-read : Found read-symbol.code
has-read = TheLink.linked-entry::read

pub has-shows : Found shows-symbol.code
has-shows = TheLink.linked-entry::shows
