-- A call as it runs on the machine: from any memory that holds its arguments it ends, and what it hands back and leaves behind is what its
-- contract says, in the words of OneAnswer and OverTheCalls. For the five functions of C by name: each is called from outside, where no
-- checker sees to it. Leans on each function's theorem and on the program logic's adequacy.
use mathlib.Core.Path.{◌≡◌, refl}
use mathlib.Core.Logic.{∥∥₁_elim, ∥∥₁_prop, ∥∥₁_map}
use mathlib.Core.List.{List, []}
use Prim.Native.Nat.{ℕ}
use mir.Val.{Val}
use base.Logic.{ent, sep, ex, via, fst∗, snd∗, mono_l}
use types.Logic.{sem}
use prog.Memory.{Memory}
use prog.Machine.{done}
use prog.Routine.{Routine, Env, any_callee, step}
use prog.Wired.{Wired}
use contract.Monad.{fact}
use contract.Lifetimes.{Lfts}
use contract.Running.{tables, tables_of, strict, within}
use contract.Adequate.{Satisfies, sat_weaken, sat_⇛, sat_ex∗, sat_fact}
use denote.Triple.Entry.{on_entry}
use denote.Triple.Bound.{Bound, passed}
use denote.Triple.Spec.{Back}
use denote.Triple.Clauses.{Lasts, AtExit, at_exit, lasts}
use denote.Triple.Walked.{Fit}
use denote.Triple.Adequate.{adequate}
use borrow.Fn.Claims.{with_fact}
use borrow.Fn.Kinds.{ParamKind, ResultKind, In, Out, res_t, sig_of, ended_of, stays}
use borrow.Fn.Function.{S, known_of}
use borrow.Fn.World.{World, Pr, ArgsD, ResD}
use borrow.Fn.Written.{Holds}
use borrow.Fn.Picked.{KnownAs}
use Rattle.hestovane.proofs.hestovane_condense.Kinds as condense-kinds
use Rattle.hestovane.proofs.hestovane_condense.Reads as condense-reads
use Rattle.hestovane.proofs.hestovane_condense.Symbol as condense-symbol
use Rattle.hestovane.proofs.hestovane_condense.Met as condense-met
use Rattle.hestovane.proofs.hestovane_check.Kinds as check-kinds
use Rattle.hestovane.proofs.hestovane_check.Reads as check-reads
use Rattle.hestovane.proofs.hestovane_check.Symbol as check-symbol
use Rattle.hestovane.proofs.hestovane_check.Met as check-met
use Rattle.hestovane.proofs.hestovane_ask_register.Kinds as ask-register-kinds
use Rattle.hestovane.proofs.hestovane_ask_register.Reads as ask-register-reads
use Rattle.hestovane.proofs.hestovane_ask_register.Symbol as ask-register-symbol
use Rattle.hestovane.proofs.hestovane_ask_register.Met as ask-register-met
use Rattle.hestovane.proofs.hestovane_ask_summary.Kinds as ask-summary-kinds
use Rattle.hestovane.proofs.hestovane_ask_summary.Reads as ask-summary-reads
use Rattle.hestovane.proofs.hestovane_ask_summary.Symbol as ask-summary-symbol
use Rattle.hestovane.proofs.hestovane_ask_summary.Met as ask-summary-met
use Rattle.hestovane.proofs.hestovane_list.Kinds as list-kinds
use Rattle.hestovane.proofs.hestovane_list.Reads as list-reads
use Rattle.hestovane.proofs.hestovane_list.Symbol as list-symbol
use Rattle.hestovane.proofs.hestovane_list.Met as list-met

-- the world w where a name means what it does in γ, no call is cut off, and no other thread runs
abbrev pub In_γ : World → Env → World
In_γ w γ = record { M = w.M; 𝓤 = w.𝓤; 𝓛 = w.𝓛; 𝓜 = w.𝓜; 𝓡 = within w.𝓤 w.𝓛.H w.𝓜 (strict w.𝓤 w.𝓛.H w.𝓜 w.𝓡) γ }

module _ (w : World) {n : ℕ} (ps : List (ParamKind n)) (r : ResultKind n) (Learnt : Out n ps r) (ρ : Routine) where
  abbrev Call : Type 0
  Call = Bound w.𝓛 (sig_of n ps r)

  abbrev Entry : Call → Pr w
  Entry x = on_entry w.𝓛 (sig_of n ps r) x.0 x.1 x.3 x.4

  -- what stands after the call: the last values of what was lent, and the result z as the machine value v
  abbrev After : (x : Call) → Val → (res_t r x.0).Denot → Lasts (ended_of n ps r) x.0 x.3 → Pr w
  After x v z ws =
      sep w.𝓤 (sem w.𝓛 (lasts (ended_of n ps r) x.0 x.3 ws)) (Back w.𝓛 (sig_of n ps r) x v z)

  abbrev Ended : Call → Memory → Pr w → Type 1
  Ended x σ F =
      (fuel : ℕ) × (v : Val) × (σ' : Memory) × (z : (res_t r x.0).Denot) × (ws : Lasts (ended_of n ps r) x.0 x.3) ×
      (step ρ fuel (passed w.𝓛 (sig_of n ps r) x) σ ≡ done (v, σ')) ×
      Learnt x.0 x.3 z (at_exit (ended_of n ps r) x.0 x.3 ws) ×
      Satisfies w.𝓤 w.𝓛.H w.𝓜 σ' (sep w.𝓤 (After x v z ws) F)

  -- the memory σ holds the call's arguments, beside anything else (F): the run ends so
  abbrev pub Runs : Type 2
  Runs = (x : Call) (σ : Memory) (F : Pr w) → Satisfies w.𝓤 w.𝓛.H w.𝓜 σ (sep w.𝓤 (Entry x) F) → ∥ Ended x σ F ∥₁

  module _ (G : Type 0) (req : (κs : Lfts n) → ArgsD (S n ps r [] 0) κs → G → (w : World) → Pr w)
      (ens : (κs : Lfts n) → ArgsD (S n ps r [] 0) κs → G → ResD (S n ps r [] 0) κs → AtExit (ended_of n ps r) κs → (w : World) → Pr w)
      (Asked : In n ps) (known : KnownAs n ps r G req ens Asked Learnt) (γ : Env)
      (met : Holds n ps r G req ens (In_γ w γ) ((In_γ w γ).𝓡.run ρ)) (asked : (x : Call) → Asked x.0 x.3) where
    abbrev Says : (x : Call) → Val → (res_t r x.0).Denot → Lasts (ended_of n ps r) x.0 x.3 → Type 0
    Says x v z ws = Fit (ended_of n ps r) (stays ps) x.0 x.3 ws × Learnt x.0 x.3 z (at_exit (ended_of n ps r) x.0 x.3 ws)

    -- what the theorem leaves of the result z and the last values ws
    module _ (x : Call) (v : Val) (z : (res_t r x.0).Denot) (ws : Lasts (ended_of n ps r) x.0 x.3) where
      abbrev L : Pr w
      L = sem w.𝓛 (lasts (ended_of n ps r) x.0 x.3 ws)

      abbrev B : Pr w
      B = Back w.𝓛 (sig_of n ps r) x v z

      abbrev Fa : Pr w
      Fa = fact w.𝓤 (Says x v z ws)

      abbrev Left : Pr w
      Left = sep w.𝓤 (sep w.𝓤 L Fa) B

      leaves : (F : Pr w) → ent w.𝓤 (sep w.𝓤 Left F) (sep w.𝓤 (After x v z ws) F)
      leaves F = mono_l w.𝓤 F (mono_l w.𝓤 B (fst∗ w.𝓤 L Fa))

      says : (σ : Memory) (F : Pr w) → ent w.𝓤 (sep w.𝓤 (w.𝓜.mem σ) (sep w.𝓤 Left F)) Fa
      says σ F =
          via w.𝓤 (sep w.𝓤 Left F) (snd∗ w.𝓤 (w.𝓜.mem σ) (sep w.𝓤 Left F))
          (via w.𝓤 Left (fst∗ w.𝓤 Left F) (via w.𝓤 (sep w.𝓤 L Fa) (fst∗ w.𝓤 (sep w.𝓤 L Fa) B) (snd∗ w.𝓤 L Fa)))

    module _ (x : Call) (σ : Memory) (F : Pr w) (fuel : ℕ) (v : Val) (σ' : Memory)
        (ends : step ρ fuel (passed w.𝓛 (sig_of n ps r) x) σ ≡ done (v, σ')) where
      with_values : (z : (res_t r x.0).Denot) (ws : Lasts (ended_of n ps r) x.0 x.3) →
          Satisfies w.𝓤 w.𝓛.H w.𝓜 σ' (sep w.𝓤 (Left x v z ws) F) → ∥ Ended x σ F ∥₁
      with_values z ws s =
          ∥∥₁_map (sat_fact w.𝓤 w.𝓛.H w.𝓜 σ' (sep w.𝓤 (Left x v z ws) F) (Says x v z ws) (says x v z ws σ' F) s)
          (λ g. (fuel, v, σ', z, ws, ends, g.1, sat_weaken w.𝓤 w.𝓛.H w.𝓜 σ' (leaves x v z ws F) s))

      with_result : (z : (res_t r x.0).Denot) →
          Satisfies w.𝓤 w.𝓛.H w.𝓜 σ' (sep w.𝓤 (ex w.𝓤 (Left x v z)) F) → ∥ Ended x σ F ∥₁
      with_result z s = ∥∥₁_elim (sat_ex∗ w.𝓤 w.𝓛.H w.𝓜 σ' (Left x v z) F s) ∥∥₁_prop (λ q. with_values z q.0 q.1)

      abbrev E : (res_t r x.0).Denot → Pr w
      E z = ex w.𝓤 (Left x v z)

      returned : Satisfies w.𝓤 w.𝓛.H w.𝓜 σ' (sep w.𝓤 (w.𝓛.H.⇛ (ex w.𝓤 E)) F) → ∥ Ended x σ F ∥₁
      returned s =
          ∥∥₁_elim (sat_ex∗ w.𝓤 w.𝓛.H w.𝓜 σ' E F (sat_⇛ w.𝓤 w.𝓛.H w.𝓜 σ' (ex w.𝓤 E) F s)) ∥∥₁_prop
          (λ p. with_result p.0 p.1)

    pub ran : Runs
    unfolding tables_of
    ran x σ F s =
        ∥∥₁_elim
        (adequate w.𝓤 w.𝓛.H w.𝓜 (tables w.𝓤 w.𝓛.H w.𝓜 (In_γ w γ).𝓡 (λ _. ρ)) ((λ s e. e), tt) any_callee (known_of w.𝓛 n ps r Asked Learnt)
        (known (In_γ w γ) (λ _. ρ) any_callee ρ refl met) (x, tt) σ F
        (sat_weaken w.𝓤 w.𝓛.H w.𝓜 σ (mono_l w.𝓤 F (with_fact w.𝓤 (Asked x.0 x.3) (Entry x) (asked x))) s))
        ∥∥₁_prop (λ u. returned x σ F u.0 u.1 u.2 u.3 u.4)

-- ---- the functions of C, in any environment γ that has the function's code and the code of all that it calls

pub hestovane_condense_ran : (w : World) (γ : Env) → Wired γ condense-symbol.code →
    Runs w condense-kinds.ps condense-kinds.r condense-reads.Learnt (γ condense-symbol.name)
hestovane_condense_ran w γ has =
    ran w condense-kinds.ps condense-kinds.r condense-reads.Learnt (γ condense-symbol.name)
    condense-reads.Ghost condense-reads.requires condense-reads.ensures
    condense-reads.Asked condense-reads.known γ (condense-met.met w.𝓤 w.𝓛 w.𝓜 (In_γ w γ).𝓡 has) (λ x. tt)

pub hestovane_check_ran : (w : World) (γ : Env) → Wired γ check-symbol.code →
    Runs w check-kinds.ps check-kinds.r check-reads.Learnt (γ check-symbol.name)
hestovane_check_ran w γ has =
    ran w check-kinds.ps check-kinds.r check-reads.Learnt (γ check-symbol.name)
    check-reads.Ghost check-reads.requires check-reads.ensures
    check-reads.Asked check-reads.known γ (check-met.met w.𝓤 w.𝓛 w.𝓜 (In_γ w γ).𝓡 has) (λ x. tt)

pub hestovane_ask_register_ran : (w : World) (γ : Env) → Wired γ ask-register-symbol.code →
    Runs w ask-register-kinds.ps ask-register-kinds.r ask-register-reads.Learnt (γ ask-register-symbol.name)
hestovane_ask_register_ran w γ has =
    ran w ask-register-kinds.ps ask-register-kinds.r ask-register-reads.Learnt (γ ask-register-symbol.name)
    ask-register-reads.Ghost ask-register-reads.requires ask-register-reads.ensures
    ask-register-reads.Asked ask-register-reads.known γ (ask-register-met.met w.𝓤 w.𝓛 w.𝓜 (In_γ w γ).𝓡 has) (λ x. tt)

pub hestovane_ask_summary_ran : (w : World) (γ : Env) → Wired γ ask-summary-symbol.code →
    Runs w ask-summary-kinds.ps ask-summary-kinds.r ask-summary-reads.Learnt (γ ask-summary-symbol.name)
hestovane_ask_summary_ran w γ has =
    ran w ask-summary-kinds.ps ask-summary-kinds.r ask-summary-reads.Learnt (γ ask-summary-symbol.name)
    ask-summary-reads.Ghost ask-summary-reads.requires ask-summary-reads.ensures
    ask-summary-reads.Asked ask-summary-reads.known γ (ask-summary-met.met w.𝓤 w.𝓛 w.𝓜 (In_γ w γ).𝓡 has) (λ x. tt)

pub hestovane_list_ran : (w : World) (γ : Env) → Wired γ list-symbol.code →
    Runs w list-kinds.ps list-kinds.r list-reads.Learnt (γ list-symbol.name)
hestovane_list_ran w γ has =
    ran w list-kinds.ps list-kinds.r list-reads.Learnt (γ list-symbol.name)
    list-reads.Ghost list-reads.requires list-reads.ensures
    list-reads.Asked list-reads.known γ (list-met.met w.𝓤 w.𝓛 w.𝓜 (In_γ w γ).𝓡 has) (λ x. tt)
