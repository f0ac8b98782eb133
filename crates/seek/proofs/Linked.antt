-- The table of the functions here, and that a look-up that holds it finds what other crates call: for the crate linked.
use mathlib.Core.Bool.{true}
use prog.Wired.{Code}
use prog.Linked.{Tree, World, Holds, in_world}
use prog.LinkedThreads.{HasT}
use Rattle.seek.proofs.TheLink
use Rattle.seek.proofs.Ascending.find.Symbol as find-symbol
use Rattle.seek.proofs.Ascending.same_members.Symbol as same_members-symbol
use Rattle.seek.proofs.all_marked.Symbol as all_marked-symbol

abbrev pub table : Tree
table = TheLink.table

abbrev pub Below : World → Type 0
Below = TheLink.Below

abbrev pub Found : Code → Type 0
Found c = (W : World) → Holds W "seek" table → Below W → HasT (in_world W) true c

pub has-all_marked : Found all_marked-symbol.code
has-all_marked = TheLink.linked-seek::all_marked

pub has-find : Found find-symbol.code
has-find = TheLink.linked-seek::Ascending::find

pub has-same_members : Found same_members-symbol.code
has-same_members = TheLink.linked-seek::Ascending::same_members
