-- One answer only, over the contracts of the ten functions as they stand in src/lib.rt: "that two results allowed by it coincide is proved".
-- Two results that a function's contract allows for the same arguments are the same value, and every lent buffer holds the same bytes. The
-- contract is no copy: it is what the checker makes of the clauses, so that a weaker clause is refused here. Leans on promise's OneAnswer.
use mathlib.Core.Path.{◌≡◌, refl, sym, ap, ◌∙◌}
use mathlib.Core.Bool.{Bool}
use mathlib.Core.List.{List}
use Prim.Native.Nat.{ℕ}
use native.Mathlib.Omega.{arith}
use contract.Lifetimes.{Lfts}
use denote.Triple.Clauses.{Lasts, at_exit}
use borrow.Fn.Kinds.{ParamKind, ResultKind, Out, Dens, res_t, ended_of}
use Rattle.std.proofs.Common.{Result, Ok, Err}
use Rattle.meaning.specs.Refusals.{number_of}
use Rattle.meaning.specs.declared.Refusal.{Refusal}
use Rattle.meaning.specs.Answers.{Answer, number}
use Rattle.promise.proofs.OneAnswer.{number_one}
use Rattle.said.specs.Written as written
use Rattle.said.specs.Written.{Gives}
use Rattle.said.specs.Told.{told}
use Rattle.hestovane.proofs.condense.Kinds as condense-kinds
use Rattle.hestovane.proofs.condense.Reads as condense-reads
use Rattle.hestovane.proofs.hestovane_condense.Kinds as c-condense-kinds
use Rattle.hestovane.proofs.hestovane_condense.Reads as c-condense-reads
use Rattle.hestovane.proofs.check.Kinds as check-kinds
use Rattle.hestovane.proofs.check.Reads as check-reads
use Rattle.hestovane.proofs.hestovane_check.Kinds as c-check-kinds
use Rattle.hestovane.proofs.hestovane_check.Reads as c-check-reads
use Rattle.hestovane.proofs.ask_register.Kinds as ask-register-kinds
use Rattle.hestovane.proofs.ask_register.Reads as ask-register-reads
use Rattle.hestovane.proofs.hestovane_ask_register.Kinds as c-ask-register-kinds
use Rattle.hestovane.proofs.hestovane_ask_register.Reads as c-ask-register-reads
use Rattle.hestovane.proofs.ask_summary.Kinds as ask-summary-kinds
use Rattle.hestovane.proofs.ask_summary.Reads as ask-summary-reads
use Rattle.hestovane.proofs.hestovane_ask_summary.Kinds as c-ask-summary-kinds
use Rattle.hestovane.proofs.hestovane_ask_summary.Reads as c-ask-summary-reads
use Rattle.hestovane.proofs.list.Kinds as list-kinds
use Rattle.hestovane.proofs.list.Reads as list-reads
use Rattle.hestovane.proofs.hestovane_list.Kinds as c-list-kinds
use Rattle.hestovane.proofs.hestovane_list.Reads as c-list-reads

-- ---- an answer is told by its numbers and words

number_back : (j k : ℕ) → number j ≡ number k → j ≡ k
number_back j k e = cc

pub clash : {A : Type 0} → ◌≡◌ {A = ℕ} 0 1 → A
clash e = absurd (omega (arith, e))

pub said_one : (r s : Result Bool Refusal) → told r ≡ told s → r ≡ s
said_one (Ok t) (Ok u) e = ap (λ (b : Bool). Ok b) cc
said_one (Ok t) (Err b) e = clash cc
said_one (Err a) (Ok u) e = clash cc
said_one (Err a) (Err b) e = ap (λ (r : Refusal). Err r) (number_one a b (number_back (number_of a) (number_of b) e))

pub wrote_one : (w v : Result ℕ Refusal) → written.told w ≡ written.told v → w ≡ v
wrote_one (Ok j) (Ok k) e = ap (λ (n : ℕ). Ok n) cc
wrote_one (Ok j) (Err b) e = clash cc
wrote_one (Err a) (Ok k) e = clash cc
wrote_one (Err a) (Err b) e = ap (λ (r : Refusal). Err r) (number_one a b (number_back (number_of a) (number_of b) e))

gives_one : (a : Answer) (d : List ℕ) {w v : Result ℕ Refusal} {x y : List ℕ} → Gives w d x a → Gives v d y a → (w ≡ v) × (x ≡ y)
gives_one a d {w} {v} p q = (wrote_one w v (p.says ∙ sym q.says), p.leaves ∙ sym q.leaves)

-- ---- what a contract allows

-- `Learnt` is what a caller is told of a call with the arguments a: of the value handed back, and of what each lent buffer holds afterwards
abbrev pub One : {n : ℕ} (ps : List (ParamKind n)) (r : ResultKind n) → Out n ps r → Type 0
One {n} ps r Learnt =
    (κs : Lfts n) (a : Dens κs ps) (y z : (res_t r κs).Denot) (us vs : Lasts (ended_of n ps r) κs a) →
    Learnt κs a y (at_exit (ended_of n ps r) κs a us) → Learnt κs a z (at_exit (ended_of n ps r) κs a vs) → (y ≡ z) × (us ≡ vs)

-- ---- the five calls

pub condense_one : One condense-kinds.ps condense-kinds.r condense-reads.Learnt
condense_one κs a y z us vs p q = let e = gives_one _ _ p q in (e.0, ap (λ (d : List ℕ). (tt, (tt, (tt, (tt, (d, tt)))))) e.1)

pub check_one : One check-kinds.ps check-kinds.r check-reads.Learnt
check_one κs a y z us vs p q = (said_one y z (p ∙ sym q), refl)

pub ask_register_one : One ask-register-kinds.ps ask-register-kinds.r ask-register-reads.Learnt
ask_register_one κs a y z us vs p q = (said_one y z (p ∙ sym q), refl)

pub ask_summary_one : One ask-summary-kinds.ps ask-summary-kinds.r ask-summary-reads.Learnt
ask_summary_one κs a y z us vs p q = (said_one y z (p ∙ sym q), refl)

pub list_one : One list-kinds.ps list-kinds.r list-reads.Learnt
list_one κs a y z us vs p q = let e = gives_one _ _ p q in (e.0, ap (λ (d : List ℕ). (tt, (tt, (d, tt)))) e.1)

-- ---- and the five functions of C

pub hestovane_condense_one : One c-condense-kinds.ps c-condense-kinds.r c-condense-reads.Learnt
hestovane_condense_one κs a y z us vs p q = (p.0 ∙ sym q.0, ap (λ (d : List ℕ). (tt, (tt, (tt, (tt, (d, tt)))))) (p.1 ∙ sym q.1))

pub hestovane_check_one : One c-check-kinds.ps c-check-kinds.r c-check-reads.Learnt
hestovane_check_one κs a y z us vs p q = (p ∙ sym q, refl)

pub hestovane_ask_register_one : One c-ask-register-kinds.ps c-ask-register-kinds.r c-ask-register-reads.Learnt
hestovane_ask_register_one κs a y z us vs p q = (p ∙ sym q, refl)

pub hestovane_ask_summary_one : One c-ask-summary-kinds.ps c-ask-summary-kinds.r c-ask-summary-reads.Learnt
hestovane_ask_summary_one κs a y z us vs p q = (p ∙ sym q, refl)

pub hestovane_list_one : One c-list-kinds.ps c-list-kinds.r c-list-reads.Learnt
hestovane_list_one κs a y z us vs p q = (p.0 ∙ sym q.0, ap (λ (d : List ℕ). (tt, (tt, (d, tt)))) (p.1 ∙ sym q.1))
