-- The table of the functions here, and that a look-up that holds it finds what other crates call: for the crate linked.
use mathlib.Core.Bool.{true}
use prog.Wired.{Code}
use prog.Linked.{Tree, World, Holds, in_world}
use prog.LinkedThreads.{HasT}
use Rattle.consult.proofs.TheLink
use Rattle.consult.proofs.ask.Symbol as ask-symbol
use Rattle.consult.proofs.put_answers.Symbol as put_answers-symbol

abbrev pub table : Tree
table = TheLink.table

abbrev pub Below : World → Type 0
Below = TheLink.Below

abbrev pub Found : Code → Type 0
Found c = (W : World) → Holds W "consult" table → Below W → HasT (in_world W) true c

pub has-ask : Found ask-symbol.code
has-ask = TheLink.linked-consult::ask

pub has-put_answers : Found put_answers-symbol.code
has-put_answers = TheLink.linked-consult::put_answers
