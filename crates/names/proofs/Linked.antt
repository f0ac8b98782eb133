-- The table of the functions here, and that a look-up that holds it finds what other crates call: for the crate linked.
use mathlib.Core.Bool.{true}
use prog.Wired.{Code}
use prog.Linked.{Tree, World, Holds, in_world}
use prog.LinkedThreads.{HasT}
use Rattle.names.proofs.TheLink
use Rattle.names.proofs.Class.as_group.Symbol as Class-as_group-symbol
use Rattle.names.proofs.Class.index.Symbol as Class-index-symbol
use Rattle.names.proofs.Group.index.Symbol as Group-index-symbol
use Rattle.names.proofs.Item.index.Symbol as Item-index-symbol

abbrev pub table : Tree
table = TheLink.table

abbrev pub Below : World → Type 0
Below = TheLink.Below

abbrev pub Found : Code → Type 0
Found c = (W : World) → Holds W "names" table → Below W → HasT (in_world W) true c

pub has-Class-as_group : Found Class-as_group-symbol.code
has-Class-as_group = TheLink.linked-names::Class::as_group

pub has-Class-index : Found Class-index-symbol.code
has-Class-index = TheLink.linked-names::Class::index

pub has-Group-index : Found Group-index-symbol.code
has-Group-index = TheLink.linked-names::Group::index

pub has-Item-index : Found Item-index-symbol.code
has-Item-index = TheLink.linked-names::Item::index
