-- The table of the functions here, and that a look-up that holds it finds what other crates call: for the crate linked.
use mathlib.Core.Bool.{true}
use prog.Wired.{Code}
use prog.Linked.{Tree, World, Holds, in_world}
use prog.LinkedThreads.{HasT}
use Rattle.wellformed.proofs.TheLink
use Rattle.wellformed.proofs.judge.Symbol as judge-symbol

abbrev pub table : Tree
table = TheLink.table

abbrev pub Below : World → Type 0
Below = TheLink.Below

abbrev pub Found : Code → Type 0
Found c = (W : World) → Holds W "wellformed" table → Below W → HasT (in_world W) true c

pub has-judge : Found judge-symbol.code
has-judge = TheLink.linked-wellformed::judge
