-- Each of the ten functions of src/lib.rt as a relation: its arguments, the value handed back, and what the lent buffer holds afterwards. What
-- it says is the function's own contract, and no copy: `Learnt` is made by the checker from the clauses, and is all that a caller is told.
use mathlib.Core.Bool.{Bool}
use mathlib.Core.List.{List}
use Prim.Native.Nat.{ℕ}
use lib.IntN.{ℤ}
use contract.Lifetimes.{Lfts}
use denote.Ref.{Bor}
use denote.MutBor.{MutBor}
use denote.Triple.Entry.{Args}
use denote.Triple.Clauses.{at_exit}
use Rattle.std.proofs.Common.{Result}
use Rattle.meaning.specs.declared.Refusal.{Refusal}
use Rattle.hestovane.specs.contracts.condense as condense-call
use Rattle.hestovane.proofs.condense.Reads as condense-reads
use Rattle.hestovane.specs.contracts.check as check-call
use Rattle.hestovane.proofs.check.Reads as check-reads
use Rattle.hestovane.specs.contracts.ask_register as ask-register-call
use Rattle.hestovane.proofs.ask_register.Reads as ask-register-reads
use Rattle.hestovane.specs.contracts.ask_summary as ask-summary-call
use Rattle.hestovane.proofs.ask_summary.Reads as ask-summary-reads
use Rattle.hestovane.specs.contracts.list as list-call
use Rattle.hestovane.proofs.list.Reads as list-reads
use Rattle.hestovane.specs.contracts.hestovane_condense as c-condense-call
use Rattle.hestovane.proofs.hestovane_condense.Reads as c-condense-reads
use Rattle.hestovane.specs.contracts.hestovane_check as c-check-call
use Rattle.hestovane.proofs.hestovane_check.Reads as c-check-reads
use Rattle.hestovane.specs.contracts.hestovane_ask_register as c-ask-register-call
use Rattle.hestovane.proofs.hestovane_ask_register.Reads as c-ask-register-reads
use Rattle.hestovane.specs.contracts.hestovane_ask_summary as c-ask-summary-call
use Rattle.hestovane.proofs.hestovane_ask_summary.Reads as c-ask-summary-reads
use Rattle.hestovane.specs.contracts.hestovane_list as c-list-call
use Rattle.hestovane.proofs.hestovane_list.Reads as c-list-reads

-- a slice of bytes as a call is handed it: `.now` is what it holds
abbrev pub Slice : Type 0
Slice = Bor (List ℕ)

-- a lent buffer as a call is handed it: `.now` is what it holds then
abbrev pub Buffer : Type 0
Buffer = MutBor (List ℕ)

-- ---- a call and what its contract says of it: the value handed back, and last what the lent buffer holds afterwards

abbrev pub Condensed : Lfts 2 → (reg : Slice) (i µ ν : ℕ) (out : Buffer) → Result ℕ Refusal → List ℕ → Type 0
Condensed κs reg i µ ν out r after =
    let a : Args condense-call.signature κs = (reg, (i, (µ, (ν, (out, tt))))) in
    condense-reads.Learnt κs a r (at_exit condense-call.ended κs a (tt, (tt, (tt, (tt, (after, tt))))))

abbrev pub Checked : Lfts 2 → (reg s : Slice) → Result Bool Refusal → Type 0
Checked κs reg s r =
    let a : Args check-call.signature κs = (reg, (s, tt)) in
    check-reads.Learnt κs a r (at_exit check-call.ended κs a (tt, (tt, tt)))

abbrev pub AskedRegister : Lfts 2 → (reg q : Slice) → ℕ → Result Bool Refusal → Type 0
AskedRegister κs reg q x r =
    let a : Args ask-register-call.signature κs = (reg, (q, (x, tt))) in
    ask-register-reads.Learnt κs a r (at_exit ask-register-call.ended κs a (tt, (tt, (tt, tt))))

abbrev pub AskedSummary : Lfts 2 → (s q : Slice) → ℕ → Result Bool Refusal → Type 0
AskedSummary κs s q x r =
    let a : Args ask-summary-call.signature κs = (s, (q, (x, tt))) in
    ask-summary-reads.Learnt κs a r (at_exit ask-summary-call.ended κs a (tt, (tt, (tt, tt))))

abbrev pub Listed : Lfts 3 → (s q : Slice) (out : Buffer) → Result ℕ Refusal → List ℕ → Type 0
Listed κs s q out r after =
    let a : Args list-call.signature κs = (s, (q, (out, tt))) in
    list-reads.Learnt κs a r (at_exit list-call.ended κs a (tt, (tt, (after, tt))))

-- ---- the same for the functions of C

abbrev pub CCondensed : Lfts 2 → (i µ ν : ℕ) (reg : Slice) (out : Buffer) → ℤ → List ℕ → Type 0
CCondensed κs i µ ν reg out r after =
    let a : Args c-condense-call.signature κs = (i, (µ, (ν, (reg, (out, tt))))) in
    c-condense-reads.Learnt κs a r (at_exit c-condense-call.ended κs a (tt, (tt, (tt, (tt, (after, tt))))))

abbrev pub CChecked : Lfts 2 → (reg s : Slice) → ℤ → Type 0
CChecked κs reg s r =
    let a : Args c-check-call.signature κs = (reg, (s, tt)) in
    c-check-reads.Learnt κs a r (at_exit c-check-call.ended κs a (tt, (tt, tt)))

abbrev pub CAskedRegister : Lfts 2 → (reg q : Slice) → ℕ → ℤ → Type 0
CAskedRegister κs reg q x r =
    let a : Args c-ask-register-call.signature κs = (reg, (q, (x, tt))) in
    c-ask-register-reads.Learnt κs a r (at_exit c-ask-register-call.ended κs a (tt, (tt, (tt, tt))))

abbrev pub CAskedSummary : Lfts 2 → (s q : Slice) → ℕ → ℤ → Type 0
CAskedSummary κs s q x r =
    let a : Args c-ask-summary-call.signature κs = (s, (q, (x, tt))) in
    c-ask-summary-reads.Learnt κs a r (at_exit c-ask-summary-call.ended κs a (tt, (tt, (tt, tt))))

abbrev pub CListed : Lfts 3 → (s q : Slice) (out : Buffer) → ℤ → List ℕ → Type 0
CListed κs s q out r after =
    let a : Args c-list-call.signature κs = (s, (q, (out, tt))) in
    c-list-reads.Learnt κs a r (at_exit c-list-call.ended κs a (tt, (tt, (after, tt))))
