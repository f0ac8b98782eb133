-- A summary made here, by a call: what is known of it from the call's contract alone. Leans on Calls, on Held for the register's bytes, and on
-- promise's Promise.
use mathlib.Core.Path.{◌≡◌, refl, sym, ap, subst, ◌∙◌}
use mathlib.Core.Bool.{Bool, true, false, cond, ◌&&◌}
use mathlib.Core.List.{List}
use mathlib.Core.Logic.{◌↔◌}
use mathlib.Core.Option.{Option, none, some}
use Prim.Native.Nat.{ℕ, zero, suc, ◌+◌, ◌≤◌}
use borrow.Author.Tests.{le-ltb, ltb-false}
use lib.Dec.{leb, ltb}
use lib.IntN.{pos}
use lib.ListN.{length, take, drop}
use lib.Seq.{take-append_seam}
use contract.Lifetimes.{Lfts}
use borrow.Fn.World.{World}
use Rattle.std.proofs.Common.{Ok}
use Rattle.meaning.specs.Register.{Register, items}
use Rattle.meaning.specs.Question.{Question, depth, threshold, holds}
use Rattle.meaning.specs.Bytes.{Bytes, put2, pack}
use Rattle.meaning.specs.RegisterFile.{register_in, fault}
use Rattle.meaning.specs.QuestionFile.{question}
use Rattle.meaning.specs.Answers.{Answer, refused, said, wrote, word, size, returned, code, left, into, unless, condense}
use Rattle.meaning.specs.Answers.{beyond, ask_tree, ask_register, ask_in, ask_summary, list_in, list}
use Rattle.meaning.specs.Summary
use Rattle.meaning.specs.Summary.{Summary}
use Rattle.meaning.specs.Condense.{summary_by, summary_of}
use Rattle.meaning.specs.WellFormed.{in_range}
use Rattle.meaning.specs.SummaryFile.{summary_bytes, summary_in, well_formed_file}
use Rattle.theory.proofs.CountLaws.{by_bool}
use Rattle.theory.proofs.Demand.{summary_abstraction}
use Rattle.theory.proofs.ShapeLaws.{accepted_fine}
use Rattle.theory.proofs.WellMade.{level_least}
use Rattle.promise.proofs.Promise.{fault_accepted, made_back, made_well, condense_wrote}
use Rattle.said.specs.Written.{Gives}
use Rattle.demands.proofs.Held.{Held, condense_bytes, hestovane_condense_bytes}
use Rattle.hestovane.proofs.OneAnswer.{clash}
use Rattle.hestovane.specs.contracts.condense as condense-call
use Rattle.hestovane.specs.contracts.hestovane_condense as c-condense-call
use Rattle.demands.proofs.Calls.{Slice, Buffer, Condensed, CCondensed}

-- ---- a summary made here, in any model of the logic: what a call of condensing wrote, or the same function of C

pub data Made (w : World) (i µ ν : ℕ) (b s : List ℕ) : Type 1 where
  condensed : (κs : Lfts 2) (reg : Slice) (out : Buffer) (k : ℕ) (after : List ℕ) →
      Held w condense-call.signature κs (reg, (i, (µ, (ν, (out, tt))))) →
      Condensed κs reg i µ ν out (Ok k) after → reg.now ≡ b → take k after ≡ s → Made w i µ ν b s
  hestovane_condensed : (κs : Lfts 2) (reg : Slice) (out : Buffer) (k : ℕ) (after : List ℕ) →
      Held w c-condense-call.signature κs (i, (µ, (ν, (reg, (out, tt))))) →
      CCondensed κs i µ ν reg out (pos k) after → reg.now ≡ b → take k after ≡ s → Made w i µ ν b s

-- the register's bytes are bytes, and the summary is what the definition writes
pub record Written (i µ ν : ℕ) (b s : List ℕ) : Type 0 where
  pub bytes : Bytes b
  pub room : ℕ
  pub wrote_is : condense i µ ν b room ≡ wrote s

pub wrote_gives : (a : Answer) (k : ℕ) (d d' : List ℕ) → Gives (Ok k) d d' a → a ≡ wrote (take k d')
unfolding returned left
wrote_gives (refused j) k d d' g = let e = g.says in clash cc
wrote_gives (said t) k d d' g = let e = g.says in clash cc
wrote_gives (wrote p) k d d' g =
    let e : k ≡ length p = size_one k (length p) g.says in
    ap wrote (sym (rw (e, g.leaves) (take-append_seam p (drop (length p) d))))
  where
    size_one : (x y : ℕ) → size x ≡ size y → x ≡ y
    size_one x y e = cc

-- an answer of a call that fills a buffer: bytes, or a refusal with its number. As one number the two are told by their sign
unfoldable pub Fills : Answer → Type 0
Fills (refused zero) = ⊥
Fills (refused (suc j)) = Unit {0}
Fills (said t) = ⊥
Fills (wrote p) = Unit {0}

pub wrote_code : (a : Answer) (k : ℕ) (d d' : List ℕ) → Fills a → pos k ≡ code (returned a) → d' ≡ left a d → a ≡ wrote (take k d')
unfolding Fills returned code left
wrote_code (refused zero) k d d' h e f = absurd h
wrote_code (refused (suc j)) k d d' h e f = clash cc
wrote_code (said t) k d d' h e f = absurd h
wrote_code (wrote p) k d d' h e f =
    let g : k ≡ length p = pos_one k (length p) e in
    ap wrote (sym (rw (g, f) (take-append_seam p (drop (length p) d))))
  where
    pos_one : (x y : ℕ) → pos x ≡ pos y → x ≡ y
    pos_one x y e = cc

fills_into : (room : ℕ) (p : List ℕ) → Fills (into room p)
unfolding Fills into
fills_into room p = go (leb (length p) room)
  where
    go : (t : Bool) → Fills (cond t (wrote p) (refused 9))
    go true = tt
    go false = tt

condense_fills : (i µ ν : ℕ) (b : List ℕ) (room : ℕ) → Fills (condense i µ ν b room)
unfolding Fills condense unless
condense_fills i µ ν b room = let p = summary_bytes (summary_of i µ ν (register_in b)) in go (fault b) (in_range i µ ν) (into room p) (fills_into room p)
  where
    go : (j : ℕ) (t : Bool) (a : Answer) → Fills a → Fills (unless j (cond t a (refused 4)))
    go zero true a h = h
    go zero false a h = tt
    go (suc j) t a h = tt

pub list_fills : (s q : List ℕ) (room : ℕ) → Fills (list s q room)
unfolding Fills list list_in
list_fills s q room = go (well_formed_file s) (question q)
  where
    reach_or : (t : Bool) (a : Answer) → Fills a → Fills (cond t (refused 7) a)
    reach_or true a h = tt
    reach_or false a h = h

    go : (u : Bool) (o : Option Question) → Fills (cond u (list_in (summary_in s) room o) (refused 6))
    go true none = tt
    go true (some t) = reach_or (beyond (summary_in s) t) _ (fills_into room (pack put2 (Summary.list (summary_in s) t)))
    go false o = tt

pub made_written : {w : World} {i µ ν : ℕ} {b s : List ℕ} → Made w i µ ν b s → Written i µ ν b s
made_written {w} {i} {µ} {ν} {b} {s} (condensed κs reg out k after held gave same is) =
    record {
      bytes = subst Bytes same (condense_bytes w κs (reg, (i, (µ, (ν, (out, tt))))) held);
      room = length out.now;
      wrote_is =
          subst (λ (c : List ℕ). condense i µ ν c (length out.now) ≡ wrote s) same
          (wrote_gives (condense i µ ν reg.now (length out.now)) k out.now after gave ∙ ap wrote is);
    }
made_written {w} {i} {µ} {ν} {b} {s} (hestovane_condensed κs reg out k after held gave same is) =
    record {
      bytes = subst Bytes same (hestovane_condense_bytes w κs (i, (µ, (ν, (reg, (out, tt))))) held);
      room = length out.now;
      wrote_is =
          subst (λ (c : List ℕ). condense i µ ν c (length out.now) ≡ wrote s) same
          (wrote_code (condense i µ ν reg.now (length out.now)) k out.now after
          (condense_fills i µ ν reg.now (length out.now)) gave.0 gave.1
          ∙ ap wrote is);
    }

-- ---- what asking says of an accepted register, and listing and asking of a summary made here

pub asked_as : (b q : List ℕ) (t : Question) (x : ℕ) → fault b ≡ 0 → question q ≡ some t →
    ask_register b q x ≡ cond (ltb x (items (register_in b))) (said (holds (register_in b) t x)) (refused 8)
unfolding ask_register ask_tree unless
asked_as b q t x fine read = rw (fine, read)

pub yes_word : (u v : Bool) → u && v ≡ true ↔ returned (cond u (said v) (refused 8)) ≡ word true
unfolding returned
yes_word true v = (λ e. ap word e, λ e. cc)
yes_word false v = (λ e. clash cc, λ e. clash cc)

pub yes_code : (u v : Bool) → u && v ≡ true ↔ code (returned (cond u (said v) (refused 8))) ≡ pos 1
unfolding returned code
yes_code true true = (λ e. refl, λ e. refl)
yes_code true false = (λ e. clash cc, λ e. clash cc)
yes_code false v = (λ e. clash cc, λ e. clash cc)

made_caps : (i µ ν : ℕ) (R : Register) → ((summary_of i µ ν R).level ≡ i) × ((summary_of i µ ν R).near_cap ≡ µ)
unfolding summary_of summary_by
made_caps i µ ν R = (refl, refl)

within : (S : Summary) (t : Question) (x : ℕ) → depth t ≤ S.level → threshold t ≤ S.near_cap + 1 → length S.map ≤ x →
    ask_in S x (some t) ≡ refused 8
unfolding ask_in beyond
within S t x a b c = rw (le-ltb S.level (depth t) a, le-ltb (S.near_cap + 1) (threshold t) b, le-ltb x (length S.map) c)

-- an item that is not there is refused, as the register refuses it
pub past_asked : (i µ ν : ℕ) (b s q : List ℕ) (t : Question) (x : ℕ) → Written i µ ν b s → question q ≡ some t → depth t ≤ i → threshold t ≤ µ + 1 →
    items (register_in b) ≤ x → ask_summary s q x ≡ refused 8
unfolding ask_summary
past_asked i µ ν b s q t x W read deep few h =
    let w = condense_wrote i µ ν b W.room s W.wrote_is in
    let R = register_in b in
    let n = (summary_abstraction µ ν R (accepted_fine R (fault_accepted b w.0)) i (level_least i µ ν w.1)).items_same in
    rw (w.2, made_well i µ ν b W.bytes w.0 w.1, made_back i µ ν b W.bytes w.0 w.1, read)
    (past (summary_of i µ ν R) (made_caps i µ ν R) (rw n h))
  where
    past : (S : Summary) → (S.level ≡ i) × (S.near_cap ≡ µ) → length S.map ≤ x → ask_in S x (some t) ≡ refused 8
    past S c h = within S t x (rw c.0 deep) (rw c.1 few) h

reach : (S : Summary) (room : ℕ) (o : Option Question) (p : List ℕ) → list_in S room o ≡ wrote p →
    (t : Question) × (o ≡ some t) × (depth t ≤ S.level) × (threshold t ≤ S.near_cap + 1)
unfolding list_in beyond
reach S room none p e = clash cc
reach S room (some t) p e =
    by_bool (ltb S.level (depth t))
    (λ d. clash (let f = rw d at e in cc))
    (λ d.
    by_bool (ltb (S.near_cap + 1) (threshold t)) (λ h. clash (let f = rw (d, h) at e in cc))
    (λ h. (t, refl, ltb-false S.level (depth t) d, ltb-false (S.near_cap + 1) (threshold t) h)))

-- a list that is not refused is of a question that is well formed and within reach
pub list_reach : (i µ ν : ℕ) (b s q p : List ℕ) (room : ℕ) → Written i µ ν b s → list s q room ≡ wrote p →
    (t : Question) × (question q ≡ some t) × (depth t ≤ i) × (threshold t ≤ µ + 1)
unfolding list
list_reach i µ ν b s q p room W e =
    let w = condense_wrote i µ ν b W.room s W.wrote_is in
    let S = summary_of i µ ν (register_in b) in
    let c = made_caps i µ ν (register_in b) in
    let f : list_in S room (question q) ≡ wrote p =
    rw (w.2, made_well i µ ν b W.bytes w.0 w.1, made_back i µ ν b W.bytes w.0 w.1) at e in
    let r = reach S room (question q) p f in
    (r.0, r.1, subst (λ (v : ℕ). depth r.0 ≤ v) c.0 r.2, subst (λ (v : ℕ). threshold r.0 ≤ v + 1) c.1 r.3)
