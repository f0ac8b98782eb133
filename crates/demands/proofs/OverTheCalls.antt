-- Demand 3 and its companions over the calls themselves: what two or three calls of src/lib.rt give for the same register and question. Each
-- call enters by its own contract (Calls) and by nothing else; of the bytes nothing is asked, since the register is the value of a slice of
-- u8 (Held). Leans on promise's Promise, which says the same of the answers.
use mathlib.Core.Path.{◌≡◌, refl, sym, ap, subst, ◌∙◌}
use mathlib.Core.Bool.{Bool, true, false, cond}
use mathlib.Core.List.{List, ◌++◌}
use mathlib.Core.Logic.{◌↔◌}
use mathlib.Core.Option.{some}
use Prim.Native.Nat.{ℕ, ◌+◌, ◌*◌, ◌≤◌, ◌<◌}
use native.Mathlib.Omega.{arith}
use borrow.Author.Tests.{le-leb, lt-leb, ltb-true, ltb-false}
use lib.Dec.{leb, ltb, eqb}
use lib.IntN.{ℤ, pos, negsuc}
use lib.ListN.{length, take, drop}
use contract.Lifetimes.{Lfts}
use borrow.Fn.World.{World}
use Rattle.std.proofs.Common.{Result, Ok, Err}
use Rattle.meaning.specs.Count.{those, any, ascends}
use Rattle.meaning.specs.Register.{items}
use Rattle.meaning.specs.Question.{Question, depth, threshold, holds}
use Rattle.meaning.specs.Bytes.{put2, pack}
use Rattle.meaning.specs.RegisterFile.{register_in}
use Rattle.meaning.specs.QuestionFile.{question}
use Rattle.meaning.specs.Answers.{Answer, refused, said, wrote, number, size, returned, code, left, into, ask_register}
use Rattle.meaning.specs.Answers
use Rattle.meaning.specs.declared.Refusal.{Refusal}
use Rattle.meaning.specs.declared.Refusal.TheVariants.{Room}
use Rattle.theory.proofs.CountLaws.{by_bool}
use Rattle.theory.proofs.Demand.{in_those, those_ascending}
use Rattle.summary.proofs.Laws.{size_numbers}
use Rattle.promise.proofs.Promise.{condense_wrote, demand_3_calls, checked, asked_same}
use Rattle.said.specs.Told.{told}
use Rattle.said.specs.Written as written
use Rattle.said.specs.Written.{Gives}
use Rattle.hestovane.proofs.OneAnswer.{clash, said_one, wrote_one}
use Rattle.demands.proofs.Calls.{Slice, Buffer, Checked, AskedRegister, AskedSummary, Listed, CChecked, CAskedRegister, CAskedSummary, CListed}
use Rattle.demands.proofs.Made.{Made, Written, made_written, wrote_gives, wrote_code, list_fills}
use Rattle.demands.proofs.Made.{asked_as, yes_word, yes_code, past_asked, list_reach}

-- an answer as the one number that C is handed
abbrev coded : Answer → ℤ
coded a = code (returned a)

-- ---- bytes and lengths

size_one : (x y : ℕ) → size x ≡ size y → x ≡ y
size_one x y e = cc

into_wrote : (room : ℕ) (p v : List ℕ) → into room p ≡ wrote v → v ≡ p
unfolding into
into_wrote room p v e = go (leb (length p) room) e
  where
    go : (t : Bool) → cond t (wrote p) (refused 9) ≡ wrote v → v ≡ p
    go true e = cc
    go false e = clash cc

size_code : (k : ℕ) (a : Answer) {v : List ℕ} → pos k ≡ coded a → a ≡ wrote v → size k ≡ returned a
unfolding returned code
size_code k a {v} e w =
    let f : pos k ≡ pos (length v) = e ∙ ap coded w in
    let g : k ≡ length v = cc in
    ap size g ∙ sym (ap returned w)

-- ---- what a list of those items is, handed back and in the lent buffer

pub record Names {R : Type 0} (size_of : ℕ → R) (nine : R) (found d : List ℕ) (r : R) (d' : List ℕ) : Type 0 where
  pub enough : 2 * length found ≤ length d → (r ≡ size_of (2 * length found)) × (d' ≡ pack put2 found ++ drop (2 * length found) d)
  pub short : length d < 2 * length found → (r ≡ nine) × (d' ≡ d)

names : (found d : List ℕ) → let a = into (length d) (pack put2 found) in
    (2 * length found ≤ length d → (returned a ≡ size (2 * length found)) × (left a d ≡ pack put2 found ++ drop (2 * length found) d))
    × (length d < 2 * length found → (returned a ≡ number 9) × (left a d ≡ d))
unfolding into returned left
names found d = (enough, short)
  where
    enough : 2 * length found ≤ length d →
        (returned (into (length d) (pack put2 found)) ≡ size (2 * length found))
        × (left (into (length d) (pack put2 found)) d ≡ pack put2 found ++ drop (2 * length found) d)
    enough h =
        let z = size_numbers found in
        let y : leb (length (pack put2 found)) (length d) ≡ true = le-leb (length (pack put2 found)) (length d) (omega (arith, z, h)) in
        (rw y (ap size z), rw y (ap (λ (k : ℕ). pack put2 found ++ drop k d) z))

    short : length d < 2 * length found →
        (returned (into (length d) (pack put2 found)) ≡ number 9) × (left (into (length d) (pack put2 found)) d ≡ d)
    short h =
        let z = size_numbers found in
        let n : leb (length (pack put2 found)) (length d) ≡ false = lt-leb (length (pack put2 found)) (length d) (omega (arith, z, h)) in
        (rw n, rw n)

-- the items where the question holds in the register
abbrev pub Found : List ℕ → Question → List ℕ
Found b t = those (holds (register_in b) t) (items (register_in b))

-- a buffer that held d was listed into: numbers of two bytes, ascending strictly, and the bytes past them as they were; and a number is among
-- them exactly when asking the register b at it the same question q says yes
pub record Exact (b q d : List ℕ) (k : ℕ) (after : List ℕ) : Type 0 where
  pub found : List ℕ
  pub length_is : k ≡ 2 * length found
  pub buffer_is : after ≡ pack put2 found ++ drop k d
  pub ascending : ascends (λ x. x) found ≡ true
  pub named : (κs : Lfts 2) (reg q' : Slice) (x : ℕ) (r : Result Bool Refusal) → AskedRegister κs reg q' x r → reg.now ≡ b → q'.now ≡ q →
      any (eqb x) found ≡ true ↔ r ≡ Ok true
  pub hestovane_named : (κs : Lfts 2) (reg q' : Slice) (x : ℕ) (r : ℤ) → CAskedRegister κs reg q' x r → reg.now ≡ b → q'.now ≡ q →
      any (eqb x) found ≡ true ↔ r ≡ pos 1

-- ---- demand 3 and its companions: b is the register, s a summary made of it here

module _ {w : World} {i µ ν : ℕ} {b s : List ℕ} (m : Made w i µ ν b s) where
  abbrev W : Written i µ ν b s
  W = made_written m

  check_answer : Answers.check b s ≡ said true
  check_answer = checked i µ ν b s W.room W.bytes W.wrote_is

  -- "the check says yes"
  pub made_checked : (κs : Lfts 2) (reg s' : Slice) (r : Result Bool Refusal) → Checked κs reg s' r → reg.now ≡ b → s'.now ≡ s → r ≡ Ok true
  unfolding returned
  made_checked κs reg s' r e f g =
      let yes : Answers.check reg.now s'.now ≡ said true = rw (f, g) check_answer in
      said_one r (Ok true) (e ∙ ap returned yes)

  pub hestovane_made_checked : (κs : Lfts 2) (reg s' : Slice) (r : ℤ) → CChecked κs reg s' r → reg.now ≡ b → s'.now ≡ s → r ≡ pos 1
  unfolding returned code
  hestovane_made_checked κs reg s' r e f g =
      let yes : Answers.check reg.now s'.now ≡ said true = rw (f, g) check_answer in
      e ∙ ap coded yes

  module _ (t : Question) (deep : depth t ≤ i) (few : threshold t ≤ µ + 1) where
    list_answer : (s' q : List ℕ) (room : ℕ) → s' ≡ s → question q ≡ some t → Answers.list s' q room ≡ into room (pack put2 (Found b t))
    list_answer s' q room f read = rw f (demand_3_calls i µ ν b s q t W.room room W.bytes W.wrote_is read deep few)

    -- "Given room for the list, the list worked out from summary and question alone names every item at which the question holds in the full
    -- register, each exactly once, in ascending order, and no other": two bytes an item, and the bytes past them stay; else 9 and no byte changes
    pub made_listed : (κs : Lfts 3) (s' q : Slice) (out : Buffer) (r : Result ℕ Refusal) (after : List ℕ) → Listed κs s' q out r after →
        s'.now ≡ s → question q.now ≡ some t → Names Ok (Err Room) (Found b t) out.now r after
    made_listed κs s' q out r after e f read =
        let one = list_answer s'.now q.now (length out.now) f read in
        let n = names (Found b t) out.now in
        let says : written.told r ≡ returned (into (length out.now) (pack put2 (Found b t))) = e.says ∙ ap returned one in
        let leaves : after ≡ left (into (length out.now) (pack put2 (Found b t))) out.now =
        e.leaves ∙ ap (λ (a : Answer). left a out.now) one in
        record {
          enough = λ h. (wrote_one r (Ok (2 * length (Found b t))) (says ∙ (n.0 h).0), leaves ∙ (n.0 h).1);
          short = λ h. (wrote_one r (Err Room) (says ∙ (n.1 h).0), leaves ∙ (n.1 h).1);
        }

    pub hestovane_made_listed : (κs : Lfts 3) (s' q : Slice) (out : Buffer) (r : ℤ) (after : List ℕ) → CListed κs s' q out r after →
        s'.now ≡ s → question q.now ≡ some t → Names pos (negsuc 8) (Found b t) out.now r after
    unfolding code
    hestovane_made_listed κs s' q out r after e f read =
        let one = list_answer s'.now q.now (length out.now) f read in
        let n = names (Found b t) out.now in
        let says : r ≡ code (returned (into (length out.now) (pack put2 (Found b t)))) = e.0 ∙ ap coded one in
        let leaves : after ≡ left (into (length out.now) (pack put2 (Found b t))) out.now =
        e.1 ∙ ap (λ (a : Answer). left a out.now) one in
        record {
          enough = λ h. (says ∙ ap code (n.0 h).0, leaves ∙ (n.0 h).1);
          short = λ h. (says ∙ ap code (n.1 h).0, leaves ∙ (n.1 h).1);
        }

    asked_there : (c q : List ℕ) (x : ℕ) → c ≡ b → question q ≡ some t →
        ask_register c q x ≡ cond (ltb x (items (register_in b))) (said (holds (register_in b) t x)) (refused 8)
    asked_there c q x f read = ap (λ (c : List ℕ). ask_register c q x) f ∙ asked_as b q t x (condense_wrote i µ ν b W.room s W.wrote_is).0 read

    -- and an item is named exactly when asking the register at it says yes
    pub made_named : (κs : Lfts 2) (reg q : Slice) (x : ℕ) (r : Result Bool Refusal) → AskedRegister κs reg q x r →
        reg.now ≡ b → question q.now ≡ some t → any (eqb x) (Found b t) ≡ true ↔ r ≡ Ok true
    made_named κs reg q x r e f read =
        let n = yes_word (ltb x (items (register_in b))) (holds (register_in b) t x) in
        let a = asked_there reg.now q.now x f read in
        rw (in_those (holds (register_in b) t) (items (register_in b)) x)
        (λ h. said_one r (Ok true) (e ∙ ap returned a ∙ n.0 h), λ h. n.1 (sym (ap returned a) ∙ sym e ∙ ap told h))

    pub hestovane_made_named : (κs : Lfts 2) (reg q : Slice) (x : ℕ) (r : ℤ) → CAskedRegister κs reg q x r →
        reg.now ≡ b → question q.now ≡ some t → any (eqb x) (Found b t) ≡ true ↔ r ≡ pos 1
    hestovane_made_named κs reg q x r e f read =
        let n = yes_code (ltb x (items (register_in b))) (holds (register_in b) t x) in
        let a = asked_there reg.now q.now x f read in
        rw (in_those (holds (register_in b) t) (items (register_in b)) x)
        (λ h. e ∙ ap coded a ∙ n.0 h, λ h. n.1 (sym (ap coded a) ∙ sym e ∙ h))

    -- asking the summary is asking the register, at every item number
    ask_answer : (q : List ℕ) (x : ℕ) → question q ≡ some t → Answers.ask_summary s q x ≡ ask_register b q x
    ask_answer q x read =
        by_bool (ltb x (items (register_in b)))
        (λ h. asked_same i µ ν b s q t x W.room W.bytes W.wrote_is read deep few (ltb-true x (items (register_in b)) h))
        (λ h. past_asked i µ ν b s q t x W read deep few (ltb-false x (items (register_in b)) h) ∙ sym (asked_there b q x refl read ∙ rw h))

    pub made_asked : (κs κs' : Lfts 2) (s' q reg q' : Slice) (x : ℕ) (r r' : Result Bool Refusal) → AskedSummary κs s' q x r →
        AskedRegister κs' reg q' x r' → s'.now ≡ s → reg.now ≡ b → q.now ≡ q'.now → question q.now ≡ some t → r ≡ r'
    made_asked κs κs' s' q reg q' x r r' e e' f g same read =
        let one : Answers.ask_summary s'.now q.now x ≡ ask_register reg.now q'.now x = rw (f, g, sym same) (ask_answer q.now x read) in
        said_one r r' (e ∙ ap returned one ∙ sym e')

    pub hestovane_made_asked : (κs κs' : Lfts 2) (s' q reg q' : Slice) (x : ℕ) (r r' : ℤ) → CAskedSummary κs s' q x r →
        CAskedRegister κs' reg q' x r' → s'.now ≡ s → reg.now ≡ b → q.now ≡ q'.now → question q.now ≡ some t → r ≡ r'
    hestovane_made_asked κs κs' s' q reg q' x r r' e e' f g same read =
        let one : Answers.ask_summary s'.now q.now x ≡ ask_register reg.now q'.now x = rw (f, g, sym same) (ask_answer q.now x read) in
        e ∙ ap coded one ∙ sym e'

  -- ---- told by the calls alone: condensing gave a length, listing gave a length, and nothing else is asked

  exact : (q d after : List ℕ) (k : ℕ) → Answers.list s q (length d) ≡ wrote (take k after) → after ≡ left (Answers.list s q (length d)) d →
      size k ≡ returned (Answers.list s q (length d)) → Exact b q d k after
  unfolding returned left
  exact q d after k e f g =
      let r = list_reach i µ ν b s q (take k after) (length d) W e in
      let t = r.0 in
      let p = pack put2 (Found b t) in
      let one = list_answer t r.2 r.3 s q (length d) refl r.1 in
      let same : take k after ≡ p = into_wrote (length d) p (take k after) (sym one ∙ e) in
      let long : k ≡ length p = size_one k (length (take k after)) (g ∙ ap returned e) ∙ ap (λ (v : List ℕ). length v) same in
      record {
        found = Found b t;
        length_is = long ∙ size_numbers (Found b t);
        buffer_is = f ∙ ap (λ (a : Answer). left a d) (e ∙ ap wrote same) ∙ ap (λ (v : ℕ). p ++ drop v d) (sym long);
        ascending = those_ascending (holds (register_in b) t) (items (register_in b));
        named = λ κs reg q' x y h u v. made_named t r.2 r.3 κs reg q' x y h u (ap question v ∙ r.1);
        hestovane_named = λ κs reg q' x y h u v. hestovane_made_named t r.2 r.3 κs reg q' x y h u (ap question v ∙ r.1);
      }

  pub demand_3 : (κs : Lfts 3) (s' q : Slice) (out : Buffer) (k : ℕ) (after : List ℕ) → Listed κs s' q out (Ok k) after → s'.now ≡ s →
      Exact b q.now out.now k after
  demand_3 κs s' q out k after e f =
      let g = subst (λ (v : List ℕ). Gives (Ok k) out.now after (Answers.list v q.now (length out.now))) f e in
      let a = Answers.list s q.now (length out.now) in
      exact q.now out.now after k (wrote_gives a k out.now after g) g.leaves g.says

  pub hestovane_demand_3 : (κs : Lfts 3) (s' q : Slice) (out : Buffer) (k : ℕ) (after : List ℕ) → CListed κs s' q out (pos k) after → s'.now ≡ s →
      Exact b q.now out.now k after
  hestovane_demand_3 κs s' q out k after e f =
      let room = length out.now in
      let a = Answers.list s q.now room in
      let says : pos k ≡ coded a = e.0 ∙ ap (λ (v : List ℕ). coded (Answers.list v q.now room)) f in
      let leaves : after ≡ left a out.now = e.1 ∙ ap (λ (v : List ℕ). left (Answers.list v q.now room) out.now) f in
      let w = wrote_code a k out.now after (list_fills s q.now room) says leaves in
      exact q.now out.now after k w leaves (size_code k a says w)
