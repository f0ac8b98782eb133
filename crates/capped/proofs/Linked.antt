-- The table of the functions here, and that a look-up that holds it finds what other crates call: for the crate linked.
use mathlib.Core.Bool.{true}
use prog.Wired.{Code}
use prog.Linked.{Tree, World, Holds, in_world}
use prog.LinkedThreads.{HasT}
use Rattle.capped.proofs.TheLink
use Rattle.capped.proofs.Capped.none.Symbol as Capped-none-symbol
use Rattle.capped.proofs.Capped.one_more.Symbol as Capped-one_more-symbol
use Rattle.capped.proofs.by_class.Symbol as by_class-symbol

abbrev pub table : Tree
table = TheLink.table

abbrev pub Below : World → Type 0
Below = TheLink.Below

abbrev pub Found : Code → Type 0
Found c = (W : World) → Holds W "capped" table → Below W → HasT (in_world W) true c

pub has-Capped-none : Found Capped-none-symbol.code
has-Capped-none = TheLink.linked-capped::Capped::none

pub has-Capped-one_more : Found Capped-one_more-symbol.code
has-Capped-one_more = TheLink.linked-capped::Capped::one_more

pub has-by_class : Found by_class-symbol.code
has-by_class = TheLink.linked-capped::by_class
