-- The table of the functions here, and that a look-up that holds it finds what other crates call: for the crate linked.
use mathlib.Core.Bool.{true}
use prog.Wired.{Code}
use prog.Linked.{Tree, World, Holds, in_world}
use prog.LinkedThreads.{HasT}
use Rattle.memo.proofs.TheLink
use Rattle.memo.proofs.decides.Symbol as decides-symbol
use Rattle.memo.proofs.recalled.Symbol as recalled-symbol
use Rattle.memo.proofs.remember.Symbol as remember-symbol
use Rattle.memo.proofs.slot_of.Symbol as slot_of-symbol

abbrev pub table : Tree
table = TheLink.table

abbrev pub Below : World → Type 0
Below = TheLink.Below

abbrev pub Found : Code → Type 0
Found c = (W : World) → Holds W "memo" table → Below W → HasT (in_world W) true c

pub has-decides : Found decides-symbol.code
has-decides = TheLink.linked-memo::decides

pub has-recalled : Found recalled-symbol.code
has-recalled = TheLink.linked-memo::recalled

pub has-remember : Found remember-symbol.code
has-remember = TheLink.linked-memo::remember

pub has-slot_of : Found slot_of-symbol.code
has-slot_of = TheLink.linked-memo::slot_of
