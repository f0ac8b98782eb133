-- The table of the functions here, and that a look-up that holds it finds what other crates call: for the crate linked.
use mathlib.Core.Bool.{true}
use prog.Wired.{Code}
use prog.Linked.{Tree, World, Holds, in_world}
use prog.LinkedThreads.{HasT}
use Rattle.matching.proofs.TheLink
use Rattle.matching.proofs.Ordered.rows_match.Symbol as Ordered-rows_match-symbol

abbrev pub table : Tree
table = TheLink.table

abbrev pub Below : World → Type 0
Below = TheLink.Below

abbrev pub Found : Code → Type 0
Found c = (W : World) → Holds W "matching" table → Below W → HasT (in_world W) true c

pub has-Ordered-rows_match : Found Ordered-rows_match-symbol.code
has-Ordered-rows_match = TheLink.linked-matching::Ordered::rows_match
