-- The table of the functions here, and that a look-up that holds it finds what other crates call: for the crate linked.
use mathlib.Core.Bool.{true}
use prog.Wired.{Code}
use prog.Linked.{Tree, World, Holds, in_world}
use prog.LinkedThreads.{HasT}
use Rattle.signature.proofs.TheLink
use Rattle.signature.proofs.Signatures.number.Symbol as Signatures-number-symbol

abbrev pub table : Tree
table = TheLink.table

abbrev pub Below : World → Type 0
Below = TheLink.Below

abbrev pub Found : Code → Type 0
Found c = (W : World) → Holds W "signature" table → Below W → HasT (in_world W) true c

pub has-Signatures-number : Found Signatures-number-symbol.code
has-Signatures-number = TheLink.linked-signature::Signatures::number
