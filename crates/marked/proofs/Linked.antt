-- The table of the functions here, and that a look-up that holds it finds what other crates call: for the crate linked.
use mathlib.Core.Bool.{true}
use prog.Wired.{Code}
use prog.Linked.{Tree, World, Holds, in_world}
use prog.LinkedThreads.{HasT}
use Rattle.marked.proofs.TheLink
use Rattle.marked.proofs.by_marks.Symbol as by_marks-symbol
use Rattle.marked.proofs.number_firsts.Symbol as number_firsts-symbol

abbrev pub table : Tree
table = TheLink.table

abbrev pub Below : World → Type 0
Below = TheLink.Below

abbrev pub Found : Code → Type 0
Found c = (W : World) → Holds W "marked" table → Below W → HasT (in_world W) true c

pub has-by_marks : Found by_marks-symbol.code
has-by_marks = TheLink.linked-marked::by_marks

pub has-number_firsts : Found number_firsts-symbol.code
has-number_firsts = TheLink.linked-marked::number_firsts
