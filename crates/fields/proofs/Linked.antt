-- The table of the functions here, and that a look-up that holds it finds what other crates call: for the crate linked.
use mathlib.Core.Bool.{true}
use prog.Wired.{Code}
use prog.Linked.{Tree, World, Holds, in_world}
use prog.LinkedThreads.{HasT}
use Rattle.fields.proofs.TheLink
use Rattle.fields.proofs.Rows.fine.Symbol as Rows-fine-symbol
use Rattle.fields.proofs.Rows.key.Symbol as Rows-key-symbol
use Rattle.fields.proofs.Rows.of.Symbol as Rows-of-symbol
use Rattle.fields.proofs.class_fine.Symbol as class_fine-symbol
use Rattle.fields.proofs.map_fine.Symbol as map_fine-symbol

abbrev pub table : Tree
table = TheLink.table

abbrev pub Below : World → Type 0
Below = TheLink.Below

abbrev pub Found : Code → Type 0
Found c = (W : World) → Holds W "fields" table → Below W → HasT (in_world W) true c

pub has-Rows-fine : Found Rows-fine-symbol.code
has-Rows-fine = TheLink.linked-fields::Rows::fine

pub has-Rows-key : Found Rows-key-symbol.code
has-Rows-key = TheLink.linked-fields::Rows::key

pub has-Rows-of : Found Rows-of-symbol.code
has-Rows-of = TheLink.linked-fields::Rows::of

pub has-class_fine : Found class_fine-symbol.code
has-class_fine = TheLink.linked-fields::class_fine

pub has-map_fine : Found map_fine-symbol.code
has-map_fine = TheLink.linked-fields::map_fine
