-- The table of the functions here, and that a look-up that holds it finds what other crates call: for the crate linked.
use mathlib.Core.Bool.{true}
use prog.Wired.{Code}
use prog.Linked.{Tree, World, Holds, in_world}
use prog.LinkedThreads.{HasT}
use Rattle.nearby.proofs.TheLink
use Rattle.nearby.proofs.Links.before.Symbol as Links-before-symbol
use Rattle.nearby.proofs.Links.last.Symbol as Links-last-symbol
use Rattle.nearby.proofs.put_ins.Symbol as put_ins-symbol
use Rattle.nearby.proofs.put_outs.Symbol as put_outs-symbol

abbrev pub table : Tree
table = TheLink.table

abbrev pub Below : World → Type 0
Below = TheLink.Below

abbrev pub Found : Code → Type 0
Found c = (W : World) → Holds W "nearby" table → Below W → HasT (in_world W) true c

pub has-Links-before : Found Links-before-symbol.code
has-Links-before = TheLink.linked-nearby::Links::before

pub has-Links-last : Found Links-last-symbol.code
has-Links-last = TheLink.linked-nearby::Links::last

pub has-put_ins : Found put_ins-symbol.code
has-put_ins = TheLink.linked-nearby::put_ins

pub has-put_outs : Found put_outs-symbol.code
has-put_outs = TheLink.linked-nearby::put_outs
