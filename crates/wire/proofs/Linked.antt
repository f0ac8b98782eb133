-- The table of the functions here, and that a look-up that holds it finds what other crates call: for the crate linked.
use mathlib.Core.Bool.{true}
use prog.Wired.{Code}
use prog.Linked.{Tree, World, Holds, in_world}
use prog.LinkedThreads.{HasT}
use Rattle.wire.proofs.TheLink
use Rattle.wire.proofs.four.Symbol as four-symbol
use Rattle.wire.proofs.put_numbers.Symbol as put_numbers-symbol
use Rattle.wire.proofs.two.Symbol as two-symbol

abbrev pub table : Tree
table = TheLink.table

abbrev pub Below : World → Type 0
Below = TheLink.Below

abbrev pub Found : Code → Type 0
Found c = (W : World) → Holds W "wire" table → Below W → HasT (in_world W) true c

pub has-four : Found four-symbol.code
has-four = TheLink.linked-wire::four

pub has-put_numbers : Found put_numbers-symbol.code
has-put_numbers = TheLink.linked-wire::put_numbers

pub has-two : Found two-symbol.code
has-two = TheLink.linked-wire::two
