-- The table of the functions here, and that a look-up that holds it finds what other crates call: for the crate linked.
use mathlib.Core.Bool.{true}
use prog.Wired.{Code}
use prog.Linked.{Tree, World, Holds, in_world}
use prog.LinkedThreads.{HasT}
use Rattle.said.proofs.TheLink
use Rattle.said.proofs.coded.Symbol as coded-symbol
use Rattle.said.proofs.measured.Symbol as measured-symbol

abbrev pub table : Tree
table = TheLink.table

abbrev pub Below : World → Type 0
Below = TheLink.Below

abbrev pub Found : Code → Type 0
Found c = (W : World) → Holds W "said" table → Below W → HasT (in_world W) true c

pub has-coded : Found coded-symbol.code
has-coded = TheLink.linked-said::coded

pub has-measured : Found measured-symbol.code
has-measured = TheLink.linked-said::measured
