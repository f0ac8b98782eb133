-- The table of the functions here, and that a look-up that holds it finds what other crates call: for the crate linked.
use mathlib.Core.Bool.{true}
use prog.Wired.{Code}
use prog.Linked.{Tree, World, Holds, in_world}
use prog.LinkedThreads.{HasT}
use Rattle.hestovane.proofs.TheLink
use Rattle.hestovane.proofs.hestovane_ask_register.Symbol as hestovane_ask_register-symbol
use Rattle.hestovane.proofs.hestovane_ask_summary.Symbol as hestovane_ask_summary-symbol
use Rattle.hestovane.proofs.hestovane_check.Symbol as hestovane_check-symbol
use Rattle.hestovane.proofs.hestovane_condense.Symbol as hestovane_condense-symbol
use Rattle.hestovane.proofs.hestovane_list.Symbol as hestovane_list-symbol

abbrev pub table : Tree
table = TheLink.table

abbrev pub Below : World → Type 0
Below = TheLink.Below

abbrev pub Found : Code → Type 0
Found c = (W : World) → Holds W "hestovane" table → Below W → HasT (in_world W) true c

pub has-hestovane_ask_register : Found hestovane_ask_register-symbol.code
has-hestovane_ask_register = TheLink.linked-hestovane::hestovane_ask_register

pub has-hestovane_ask_summary : Found hestovane_ask_summary-symbol.code
has-hestovane_ask_summary = TheLink.linked-hestovane::hestovane_ask_summary

pub has-hestovane_check : Found hestovane_check-symbol.code
has-hestovane_check = TheLink.linked-hestovane::hestovane_check

pub has-hestovane_condense : Found hestovane_condense-symbol.code
has-hestovane_condense = TheLink.linked-hestovane::hestovane_condense

pub has-hestovane_list : Found hestovane_list-symbol.code
has-hestovane_list = TheLink.linked-hestovane::hestovane_list
