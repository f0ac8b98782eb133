-- The five functions that C calls are the ones of hestovane: what a caller is told of each is what it is told of hestovane's function of its
-- name, so that whatever is proved of that one is proved of it; and each ends, from any memory that holds its arguments. Leans on demands.
use mathlib.Core.Path.{◌≡◌, refl}
use prog.Routine.{Env}
use prog.Wired.{Wired}
use borrow.Fn.World.{World}
use Rattle.demands.proofs.Ran.{Runs, In_γ, ran}
use Rattle.hestovane.proofs.hestovane_condense.Reads as condense-inside
use Rattle.hestovane_c.proofs.hestovane_condense.Kinds as condense-kinds
use Rattle.hestovane_c.proofs.hestovane_condense.Reads as condense-reads
use Rattle.hestovane_c.proofs.hestovane_condense.Symbol as condense-symbol
use Rattle.hestovane_c.proofs.hestovane_condense.Met as condense-met
use Rattle.hestovane.proofs.hestovane_check.Reads as check-inside
use Rattle.hestovane_c.proofs.hestovane_check.Kinds as check-kinds
use Rattle.hestovane_c.proofs.hestovane_check.Reads as check-reads
use Rattle.hestovane_c.proofs.hestovane_check.Symbol as check-symbol
use Rattle.hestovane_c.proofs.hestovane_check.Met as check-met
use Rattle.hestovane.proofs.hestovane_ask_register.Reads as ask-register-inside
use Rattle.hestovane_c.proofs.hestovane_ask_register.Kinds as ask-register-kinds
use Rattle.hestovane_c.proofs.hestovane_ask_register.Reads as ask-register-reads
use Rattle.hestovane_c.proofs.hestovane_ask_register.Symbol as ask-register-symbol
use Rattle.hestovane_c.proofs.hestovane_ask_register.Met as ask-register-met
use Rattle.hestovane.proofs.hestovane_ask_summary.Reads as ask-summary-inside
use Rattle.hestovane_c.proofs.hestovane_ask_summary.Kinds as ask-summary-kinds
use Rattle.hestovane_c.proofs.hestovane_ask_summary.Reads as ask-summary-reads
use Rattle.hestovane_c.proofs.hestovane_ask_summary.Symbol as ask-summary-symbol
use Rattle.hestovane_c.proofs.hestovane_ask_summary.Met as ask-summary-met
use Rattle.hestovane.proofs.hestovane_list.Reads as list-inside
use Rattle.hestovane_c.proofs.hestovane_list.Kinds as list-kinds
use Rattle.hestovane_c.proofs.hestovane_list.Reads as list-reads
use Rattle.hestovane_c.proofs.hestovane_list.Symbol as list-symbol
use Rattle.hestovane_c.proofs.hestovane_list.Met as list-met

-- ---- what a caller is told

pub condense_same : condense-reads.Learnt ≡ condense-inside.Learnt
condense_same = refl

pub check_same : check-reads.Learnt ≡ check-inside.Learnt
check_same = refl

pub ask_register_same : ask-register-reads.Learnt ≡ ask-register-inside.Learnt
ask_register_same = refl

pub ask_summary_same : ask-summary-reads.Learnt ≡ ask-summary-inside.Learnt
ask_summary_same = refl

pub list_same : list-reads.Learnt ≡ list-inside.Learnt
list_same = refl

-- ---- each ends

pub condense_ran : (w : World) (γ : Env) → Wired γ condense-symbol.code → Runs w condense-kinds.ps condense-kinds.r condense-reads.Learnt (γ condense-symbol.name)
condense_ran w γ has =
    ran w condense-kinds.ps condense-kinds.r condense-reads.Learnt (γ condense-symbol.name) condense-reads.Ghost condense-reads.requires condense-reads.ensures
    condense-reads.Asked condense-reads.known γ (condense-met.met w.𝓤 w.𝓛 w.𝓜 (In_γ w γ).𝓡 has) (λ x. tt)

pub check_ran : (w : World) (γ : Env) → Wired γ check-symbol.code → Runs w check-kinds.ps check-kinds.r check-reads.Learnt (γ check-symbol.name)
check_ran w γ has =
    ran w check-kinds.ps check-kinds.r check-reads.Learnt (γ check-symbol.name) check-reads.Ghost check-reads.requires check-reads.ensures
    check-reads.Asked check-reads.known γ (check-met.met w.𝓤 w.𝓛 w.𝓜 (In_γ w γ).𝓡 has) (λ x. tt)

pub ask_register_ran : (w : World) (γ : Env) → Wired γ ask-register-symbol.code → Runs w ask-register-kinds.ps ask-register-kinds.r ask-register-reads.Learnt (γ ask-register-symbol.name)
ask_register_ran w γ has =
    ran w ask-register-kinds.ps ask-register-kinds.r ask-register-reads.Learnt (γ ask-register-symbol.name) ask-register-reads.Ghost ask-register-reads.requires ask-register-reads.ensures
    ask-register-reads.Asked ask-register-reads.known γ (ask-register-met.met w.𝓤 w.𝓛 w.𝓜 (In_γ w γ).𝓡 has) (λ x. tt)

pub ask_summary_ran : (w : World) (γ : Env) → Wired γ ask-summary-symbol.code → Runs w ask-summary-kinds.ps ask-summary-kinds.r ask-summary-reads.Learnt (γ ask-summary-symbol.name)
ask_summary_ran w γ has =
    ran w ask-summary-kinds.ps ask-summary-kinds.r ask-summary-reads.Learnt (γ ask-summary-symbol.name) ask-summary-reads.Ghost ask-summary-reads.requires ask-summary-reads.ensures
    ask-summary-reads.Asked ask-summary-reads.known γ (ask-summary-met.met w.𝓤 w.𝓛 w.𝓜 (In_γ w γ).𝓡 has) (λ x. tt)

pub list_ran : (w : World) (γ : Env) → Wired γ list-symbol.code → Runs w list-kinds.ps list-kinds.r list-reads.Learnt (γ list-symbol.name)
list_ran w γ has =
    ran w list-kinds.ps list-kinds.r list-reads.Learnt (γ list-symbol.name) list-reads.Ghost list-reads.requires list-reads.ensures
    list-reads.Asked list-reads.known γ (list-met.met w.𝓤 w.𝓛 w.𝓜 (In_γ w γ).𝓡 has) (λ x. tt)
