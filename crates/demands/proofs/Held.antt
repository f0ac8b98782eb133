-- What a caller knows of a slice of u8 that it lends: every element is a byte. The value of a slice is a list of numbers, and what bounds them
-- is what the slice owns; whoever makes a call owns its arguments (`Held`), so this holds of every call with nothing asked. Leans on the
-- program logic: to read an element of a `&[u8]` shows that it fits.
use mathlib.Core.Path.{◌≡◌, refl}
use mathlib.Core.Logic.{∥∥₁_elim}
use mathlib.Core.List.{List, [], ◌∷◌}
use Prim.Native.Nat.{ℕ, zero, suc, ◌<◌}
use native.Mathlib.Omega.{arith}
use native.Mathlib.Bridge.{le_prop}
use lib.Dec.{T}
use lib.ListN.{length, get_or}
use mir.Syntax.{w8, named, erased, ty_int}
use mir.Val.{Val, vint, WT, has_ty}
use base.Logic.{ent, sep, emp, wand, ex, guard, via, fst∗, snd∗, comm∗, mono_l, mono_r, emp∗, id⊢, ex_e, guard_e}
use base.Fml.{Lft, Share, Fml}
use prog.Memory.{Memory}
use types.Logic.{sem}
use contract.Monad.{fact, fact_i}
use contract.Lifetimes.{Lfts, Shares, toks}
use contract.Adequate.{Satisfies, sat_weaken, sat_⇛, sat_fact}
use contract.CodeStep.{Step}
use denote.Ref.{Bor}
use denote.Memory.{mem}
use denote.Slice
use denote.Slice.{Room}
use denote.Builtin.{u8}
use denote.RattleType.{RattleType, Denots, Valss, owns}
use denote.Signature.{Signature, types_at}
use denote.Triple.Entry.{Args, Vals, alive, on_entry}
use denote.Triple.CanOwn.{CanOwn, learns_can_own}
use borrow.Fn.World.{World, Pr}
use borrow.Table.Owned.{ShrSlice}
use borrow.Table.Elements.{at}
use borrow.Table.Referent.{rt_f, f_int}
use borrow.Rule.Slice.Shared.{shs_glance, slice_v}
use borrow.Kind.ShrSlice.{shr_laws}
use Rattle.meaning.specs.Count.{Every}
use Rattle.meaning.specs.Bytes.{Bytes}
use Rattle.hestovane.specs.contracts.condense as condense
use Rattle.hestovane.specs.contracts.hestovane_condense as hestovane-condense

-- a list whose elements are bytes, one by one
all_bytes : (b : List ℕ) → ((i : ℕ) → i < length b → get_or b i 0 < 256) → Bytes b
unfolding Every
all_bytes [] h = tt
all_bytes (v ∷ b) h = (h 0 (omega arith), all_bytes b (λ i l. h (suc i) (omega (arith, l))))

-- in any model of the logic
module _ (w : World) where
  abbrev ◌⊢◌ : Pr w → Pr w → Type 1
  P ⊢ Q = ent w.𝓤 P Q

  abbrev ◌∗◌ : Pr w → Pr w → Pr w
  P ∗ Q = sep w.𝓤 P Q

  abbrev ⟦◌⟧ : Fml → Pr w
  ⟦ P ⟧ = sem w.𝓛 P

  infix 26 ◌⊢◌
  infixr 35 ◌∗◌
  alone : (P : Pr w) → P ⊢ P ∗ emp w.𝓤
  alone P = via w.𝓤 (emp w.𝓤 ∗ P) (emp∗ w.𝓤 P) (comm∗ w.𝓤 (emp w.𝓤) P)

  -- ---- one element

  -- what a slice of u8 at the lifetime κ owns; and that beside a share of the lifetime's token
  abbrev Slice8 : Lft → Bor (List ℕ) → Pr w
  Slice8 κ x = ⟦ (ShrSlice erased κ (rt_f (f_int w8))).own_val x ⟧

  abbrev Lent : Lft → Share → Bor (List ℕ) → Pr w
  Lent κ q x = Slice8 κ x ∗ w.𝓛.A.lft κ q

  module _ (κ : Lft) (q : Share) (x : Bor (List ℕ)) (i : ℕ) (h : i < length x.now) where
    abbrev Byte : Type 0
    Byte = get_or x.now i 0 < 256

    abbrev Fits : Type 0
    Fits = T (has_ty (ty_int w8) (vint w8 (get_or x.now i 0))) × WT (vint w8 (get_or x.now i 0))

    abbrev Cell : Share → Pr w
    Cell s = w.𝓛.H.at s (ty_int w8) x.ref_ptr.0 (at x.ref_ptr.1 (mem (rt_f (f_int w8))).size i) (vint w8 (get_or x.now i 0))

    abbrev Back : Share → Pr w
    Back s = wand w.𝓤 (Cell s) (w.𝓛.H.⇛ (Lent κ q x))

    abbrev Seen : Pr w
    Seen = ex w.𝓤 (λ (s : Share). Cell s ∗ Back s)

    shown : Lent κ q x ⊢ w.𝓛.H.⇛ (fact w.𝓤 Byte)
    shown =
        via w.𝓤 (w.𝓛.H.⇛ Seen)
        (shs_glance w.𝓛 (f_int w8) κ q x.ref_ptr.0 x.ref_ptr.1 x.now i _ 0 refl h)
        (w.𝓛.laws.⇛_mono Seen (fact w.𝓤 Byte)
        (ex_e w.𝓤 (λ (s : Share). Cell s ∗ Back s)
        (λ s.
        via w.𝓤 (Cell s) (fst∗ w.𝓤 (Cell s) (Back s))
        (via w.𝓤 (guard w.𝓤 Fits (Cell s)) (w.𝓛.laws.at_wt s (ty_int w8) _ _ (vint w8 (get_or x.now i 0)))
        (guard_e w.𝓤 Fits (Cell s) (λ t. fact_i w.𝓤 Byte (Cell s) t.1.fits))))))

  -- ---- among the parameters of a call

  -- the token of the first lifetime
  token : (n : ℕ) (κs : Lfts (suc n)) (qs : Shares (suc n)) → toks w.𝓛 (suc n) κs qs ⊢ w.𝓛.A.lft κs.0 qs.0
  token n κs qs = fst∗ w.𝓤 (w.𝓛.A.lft κs.0 qs.0) (toks w.𝓛 n κs.1 qs.1)

  -- what the parameters own, and what the one at a place owns
  abbrev Owns : (Rs : List RattleType) → Denots Rs → Valss Rs → Pr w
  Owns Rs a vss = ⟦ owns Rs a vss ⟧

  abbrev OwnAt : ℕ → (Rs : List RattleType) → Denots Rs → Valss Rs → Pr w
  OwnAt k [] a vss = emp w.𝓤
  OwnAt zero (R ∷ Rs) a vss = ⟦ R.own_val a.0 vss.0 ⟧
  OwnAt (suc k) (R ∷ Rs) a vss = OwnAt k Rs a.1 vss.1

  own_at : (k : ℕ) (Rs : List RattleType) (a : Denots Rs) (vss : Valss Rs) → Owns Rs a vss ⊢ OwnAt k Rs a vss
  own_at k [] a vss = id⊢ w.𝓤 (emp w.𝓤)
  own_at zero (R ∷ Rs) a vss = fst∗ w.𝓤 ⟦ R.own_val a.0 vss.0 ⟧ (Owns Rs a.1 vss.1)
  own_at (suc k) (R ∷ Rs) a vss =
      via w.𝓤 (Owns Rs a.1 vss.1) (snd∗ w.𝓤 ⟦ R.own_val a.0 vss.0 ⟧ (Owns Rs a.1 vss.1)) (own_at k Rs a.1 vss.1)

  -- a parameter `&[u8]` owns what a slice of u8 does
  abbrev Parameter : Lft → Bor (List ℕ) → List Val → Pr w
  Parameter κ x vs = ⟦ (Slice.ShrSlice (named 0) κ u8).own_val x vs ⟧

  abbrev Is : Bor (List ℕ) → List Val → Type 0
  Is x vs = (vs ≡ slice_v x ∷ []) × Room (rt_f (f_int w8)) (length x.now)

  as_slice : (κ : Lft) (x : Bor (List ℕ)) (vs : List Val) → Parameter κ x vs ⊢ Slice8 κ x
  as_slice κ x vs =
      via w.𝓤 (guard w.𝓤 (Is x vs) (Slice8 κ x)) ((shr_laws w.𝓛 1 (rt_f (f_int w8)) (named 0) 0 tt).own_in (κ, tt) x vs)
      (guard_e w.𝓤 (Is x vs) (Slice8 κ x) (λ t. id⊢ w.𝓤 (Slice8 κ x)))

  slice_of : (k : ℕ) (Rs : List RattleType) (a : Denots Rs) (vss : Valss Rs) (κ : Lft) (x : Bor (List ℕ)) (vs : List Val) →
      OwnAt k Rs a vss ⊢ Parameter κ x vs → Owns Rs a vss ⊢ Slice8 κ x
  slice_of k Rs a vss κ x vs is =
      via w.𝓤 (OwnAt k Rs a vss) (own_at k Rs a vss) (via w.𝓤 (Parameter κ x vs) is (as_slice κ x vs))

  -- ---- at a call

  module _ (S : Signature) (κs : Lfts S.lifetimes) (a : Args S κs) where
    abbrev Entry : Shares S.lifetimes → Vals S κs → Pr w
    Entry qs vss = on_entry w.𝓛 S κs qs a vss

    -- its arguments can be owned, beside some memory. It is the logic's own, and whoever makes a call has it
    abbrev pub Held : Type 1
    Held = CanOwn w.𝓛 w.𝓜.mem S κs a

    -- as a caller that is about to take a step has, with what every function's theorem asks of its caller
    pub calls_hold : (qs : Shares S.lifetimes) (vss : Vals S κs) (P Q : Pr w) → Step w.𝓤 w.𝓛.H w.𝓜 Q →
        P ⊢ Entry qs vss → (Held → P ⊢ Q) → P ⊢ Q
    calls_hold = learns_can_own w.𝓛 w.𝓜 S κs a

    -- and as any memory has that holds them, beside anything else
    pub memory_holds : (qs : Shares S.lifetimes) (vss : Vals S κs) (σ : Memory) (F : Pr w) →
        Satisfies w.𝓤 w.𝓛.H w.𝓜 σ (Entry qs vss ∗ F) → Held
    unfolding Satisfies
    memory_holds qs vss σ F s = ∣ (σ, qs, vss, sat_weaken w.𝓤 w.𝓛.H w.𝓜 σ (fst∗ w.𝓤 (Entry qs vss) F) s) ∣₁

    module _ (κ : Lft) (x : Bor (List ℕ)) (share : Shares S.lifetimes → Share)
        (alive-at : (qs : Shares S.lifetimes) → alive w.𝓛 S κs qs ⊢ w.𝓛.A.lft κ (share qs))
        (Slice-at : (vss : Vals S κs) → Owns (types_at S.params κs) a vss ⊢ Slice8 κ x) where
      lent : (qs : Shares S.lifetimes) (vss : Vals S κs) → Entry qs vss ⊢ Lent κ (share qs) x
      lent qs vss =
          let L : Pr w = alive w.𝓛 S κs qs in
          let O : Pr w = Owns (types_at S.params κs) a vss in
          via w.𝓤 (O ∗ L) (comm∗ w.𝓤 L O)
          (via w.𝓤 (Slice8 κ x ∗ L) (mono_l w.𝓤 L (Slice-at vss)) (mono_r w.𝓤 (Slice8 κ x) (alive-at qs)))

      byte_held : Held → (i : ℕ) → i < length x.now → get_or x.now i 0 < 256
      unfolding Satisfies
      byte_held can i h =
          ∥∥₁_elim can le_prop
          (λ t.
          let F : Pr w = fact w.𝓤 (get_or x.now i 0 < 256) in
          let s : Satisfies w.𝓤 w.𝓛.H w.𝓜 t.0 (Entry t.1 t.2) = t.3 in
          let read = via w.𝓤 (Lent κ (share t.1) x) (lent t.1 t.2) (shown κ (share t.1) x i h) in
          let up = sat_weaken w.𝓤 w.𝓛.H w.𝓜 t.0 (via w.𝓤 (w.𝓛.H.⇛ F) read (alone (w.𝓛.H.⇛ F))) s in
          let says = via w.𝓤 (F ∗ emp w.𝓤) (snd∗ w.𝓤 (w.𝓜.mem t.0) (F ∗ emp w.𝓤)) (fst∗ w.𝓤 F (emp w.𝓤)) in
          let now = sat_⇛ w.𝓤 w.𝓛.H w.𝓜 t.0 F (emp w.𝓤) up in
          ∥∥₁_elim (sat_fact w.𝓤 w.𝓛.H w.𝓜 t.0 (F ∗ emp w.𝓤) (get_or x.now i 0 < 256) says now) le_prop (λ v. v))

      bytes_held : Held → Bytes x.now
      bytes_held can = all_bytes x.now (byte_held can)

  -- ---- the register that is condensed, in Rattle and in C

  pub condense_bytes : (κs : Lfts 2) (a : Args condense.signature κs) → Held condense.signature κs a → Bytes a.0.now
  condense_bytes κs a =
      bytes_held condense.signature κs a κs.0 a.0 (λ qs. qs.0) (token 1 κs)
      (λ vss. slice_of 0 (types_at (condense.signature).params κs) a vss κs.0 a.0 vss.0 (id⊢ w.𝓤 (Parameter κs.0 a.0 vss.0)))

  pub hestovane_condense_bytes : (κs : Lfts 2) (a : Args hestovane-condense.signature κs) →
      Held hestovane-condense.signature κs a → Bytes a.1.1.1.0.now
  hestovane_condense_bytes κs a =
      let reg : Bor (List ℕ) = a.1.1.1.0 in
      bytes_held hestovane-condense.signature κs a κs.0 reg (λ qs. qs.0) (token 1 κs)
      (λ vss.
      let vs : List Val = vss.1.1.1.0 in
      slice_of 3 (types_at (hestovane-condense.signature).params κs) a vss κs.0 reg vs (id⊢ w.𝓤 (Parameter κs.0 reg vs)))
