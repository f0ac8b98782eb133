-- The table of the functions here, and that a look-up that holds it finds what other crates call: for the crate linked.
use mathlib.Core.Bool.{true}
use prog.Wired.{Code}
use prog.Linked.{Tree, World, Holds, in_world}
use prog.LinkedThreads.{HasT}
use Rattle.register.proofs.TheLink
use Rattle.register.proofs.Register.far.Symbol as Register-far-symbol
use Rattle.register.proofs.Register.label.Symbol as Register-label-symbol
use Rattle.register.proofs.Register.marks.Symbol as Register-marks-symbol
use Rattle.register.proofs.Register.near.Symbol as Register-near-symbol
use Rattle.register.proofs.Register.source.Symbol as Register-source-symbol
use Rattle.register.proofs.Register.target.Symbol as Register-target-symbol
use Rattle.register.proofs.verdict.judge.Symbol as judge-symbol

abbrev pub table : Tree
table = TheLink.table

abbrev pub Below : World → Type 0
Below = TheLink.Below

abbrev pub Found : Code → Type 0
Found c = (W : World) → Holds W "register" table → Below W → HasT (in_world W) true c

pub has-Register-far : Found Register-far-symbol.code
has-Register-far = TheLink.linked-register::Register::far

pub has-Register-label : Found Register-label-symbol.code
has-Register-label = TheLink.linked-register::Register::label

pub has-Register-marks : Found Register-marks-symbol.code
has-Register-marks = TheLink.linked-register::Register::marks

pub has-Register-near : Found Register-near-symbol.code
has-Register-near = TheLink.linked-register::Register::near

pub has-Register-source : Found Register-source-symbol.code
has-Register-source = TheLink.linked-register::Register::source

pub has-Register-target : Found Register-target-symbol.code
has-Register-target = TheLink.linked-register::Register::target

pub has-judge : Found judge-symbol.code
has-judge = TheLink.linked-register::verdict::judge
