-- The refusals of asking and listing from a summary in their order: 6, 5, 7, then 8 or 9. Leans on meaning's Answers.
use mathlib.Core.Path.{◌≡◌, refl, sym, ap, ◌∙◌}
use mathlib.Core.Bool.{Bool, true, false, cond, ◌||◌}
use mathlib.Core.List.{List}
use mathlib.Core.Option.{Option, none, some}
use Prim.Native.Nat.{ℕ, ◌+◌, ◌≤◌, ◌<◌}
use native.Mathlib.Omega.{arith}
use borrow.Author.Tests.{lt-ltb, le-ltb}
use lib.Dec.{leb, ltb}
use lib.ListN.{length, get_or}
use Rattle.std.proofs.Common.{Result, Ok, Err}
use Rattle.meaning.specs.Count.{those}
use Rattle.meaning.specs.Question.{Question, depth, threshold}
use Rattle.meaning.specs.Summary.{Summary, class_at, holds_at}
use Rattle.meaning.specs.Summary
use Rattle.meaning.specs.Bytes.{put2, pack}
use Rattle.meaning.specs.QuestionFile.{question}
use Rattle.meaning.specs.SummaryFile.{summary_in, well_formed_file}
use Rattle.meaning.specs.Refusals.{number_of}
use Rattle.meaning.specs.declared.Refusal.{Refusal}
use Rattle.meaning.specs.Answers.{number, word, returned, left, into, beyond, ask_in, ask_summary, list_in, list}
use Rattle.meaning.specs.Answers
use Rattle.theory.proofs.CountLaws.{those_same}
use Rattle.summary.proofs.Laws.{size_numbers}
use Rattle.said.specs.Written.{Gives}
use Rattle.said.proofs.Laws.{gives_this}
use Rattle.meaning.specs.declared.Refusal.TheVariants.{Beyond, Question as Malformation, Summary as Sixth}
use Rattle.header.proofs.File.{sized_file}
use Rattle.listed.proofs.Laws.{at_most, mapped}
use Rattle.question.specs.Read as read
use Rattle.question.specs.declared.Needs.{Needs}
use Rattle.question.proofs.Laws.{verdict_accepted, verdict_refused, parsed_question}
use Rattle.hestovane.specs.Reached.{Reached}
use Rattle.said.specs.Told.{told}
use Rattle.said.specs.Written.{Short}
use Rattle.question.specs.Read.{Treeless}
use Rattle.consult.specs.Consulted.{Holds, Answers as Answered}
use Rattle.listed.specs.Passing.{passing}

-- 7, as the code tests it
pub beyond_by : (S : Summary) (t : Question) (d h : ℕ) → d ≡ depth t → h ≡ threshold t → ltb S.level d || ltb (S.near_cap + 1) h ≡ beyond S t
unfolding beyond
beyond_by S t d h e f = rw (e, f)

module _ (s q : List ℕ) where
  abbrev S : Summary
  S = summary_in s

  -- ---- asking

  module _ (x : ℕ) where
    pub ask_six : well_formed_file s ≡ false → number 6 ≡ returned (ask_summary s q x)
    unfolding ask_summary returned
    ask_six e = sym (rw e)

    module _ (well : well_formed_file s ≡ true) where
      pub ask_five : question q ≡ none → number 5 ≡ returned (ask_summary s q x)
      unfolding ask_summary ask_in returned
      ask_five e = sym (rw (well, e))

      module _ (t : Question) (reads : question q ≡ some t) where
        pub ask_seven : beyond S t ≡ true → number 7 ≡ returned (ask_summary s q x)
        unfolding ask_summary ask_in returned
        ask_seven e = sym (rw (well, reads, e))

        pub ask_eight : beyond S t ≡ false → length S.map ≤ x → number 8 ≡ returned (ask_summary s q x)
        unfolding ask_summary ask_in returned
        ask_eight e h = sym (rw (well, reads, e, le-ltb x (length S.map) h))

        pub ask_at : beyond S t ≡ false → x < length S.map → word (holds_at S t (class_at S x)) ≡ returned (ask_summary s q x)
        unfolding ask_summary ask_in returned
        ask_at e h = sym (rw (well, reads, e, lt-ltb x (length S.map) h))

  -- ---- listing

  module _ (room : ℕ) where
    pub list_six : well_formed_file s ≡ false → Answers.refused 6 ≡ list s q room
    unfolding list
    list_six e = sym (rw e)

    module _ (well : well_formed_file s ≡ true) where
      pub list_five : question q ≡ none → Answers.refused 5 ≡ list s q room
      unfolding list list_in
      list_five e = sym (rw (well, e))

      module _ (t : Question) (reads : question q ≡ some t) where
        pub list_seven : beyond S t ≡ true → Answers.refused 7 ≡ list s q room
        unfolding list list_in
        list_seven e = sym (rw (well, reads, e))

        pub list_into : beyond S t ≡ false → into room (pack put2 (Summary.list S t)) ≡ list s q room
        unfolding list list_in
        list_into e = sym (rw (well, reads, e))

-- ---- what a refusal gives, and the items of a list

pub gives_refused : (r : Refusal) (d : List ℕ) → Gives (Err r) d d (Answers.refused (number_of r))
unfolding returned left
gives_refused r d = record { says = refl; leaves = refl }

pub list_named : (s : List ℕ) (t : Question) (answers : List Bool) → well_formed_file s ≡ true →
    ((c : ℕ) → c < length (summary_in s).classes → get_or answers c false ≡ holds_at (summary_in s) t c) →
    those (λ x. get_or answers (class_at (summary_in s) x) false) (length (summary_in s).map) ≡ Summary.list (summary_in s) t
unfolding Summary.list
list_named s t answers w e = those_same _ _ (length (summary_in s).map) (λ x h. e (class_at (summary_in s) x) (mapped s x w h))

-- so a list is short enough for C
list_few : (S : Summary) (t : Question) → length (Summary.list S t) ≤ length S.map
unfolding Summary.list
list_few S t = at_most (λ x. holds_at S t (class_at S x)) (length S.map)

pub list_short : (s q : List ℕ) (room : ℕ) → Short (returned (list s q room))
unfolding list list_in into returned Short
list_short s q room = go (well_formed_file s) refl (question q)
  where
    small : well_formed_file s ≡ true → (t : Question) → length (pack put2 (Summary.list (summary_in s) t)) ≤ 55320
    small w t = omega (arith, size_numbers (Summary.list (summary_in s) t), list_few (summary_in s) t, (sized_file s w).few_items)

    room_or : (w : well_formed_file s ≡ true) (t : Question) (u : Bool) → Short (returned (cond u (Answers.wrote (pack put2 (Summary.list (summary_in s) t))) (Answers.refused 9)))
    room_or w t true = small w t
    room_or w t false = tt

    reach_or : (w : well_formed_file s ≡ true) (t : Question) (u : Bool) → Short (returned (cond u (Answers.refused 7) (into room (pack put2 (Summary.list (summary_in s) t)))))
    reach_or w t true = tt
    reach_or w t false = room_or w t (leb (length (pack put2 (Summary.list (summary_in s) t))) room)

    go : (b : Bool) → well_formed_file s ≡ b → (t : Option Question) → Short (returned (cond b (list_in (summary_in s) room t) (Answers.refused 6)))
    go true w none = tt
    go true w (some t) = reach_or w t (beyond (summary_in s) t)
    go false w t = tt

pub at_class : (S : Summary) (t : Question) (k c : ℕ) → k ≡ c → holds_at S t k ≡ holds_at S t c
at_class S t k c e = ap (holds_at S t) e

-- the question judged, and within reach
pub reached : (s q : List ℕ) (n : Needs) (b : Bool) → read.accepted n.depth n.threshold ≡ read.verdict q →
    b ≡ (ltb (summary_in s).level n.depth || ltb ((summary_in s).near_cap + 1) n.threshold) → b ≡ false → Reached s q n
reached s q n b e f g =
    let v = verdict_accepted q n.depth n.threshold e in
    record {
      tree = v.0;
      reads = v.1;
      depth_is = v.2;
      within = sym (beyond_by (summary_in s) v.0 n.depth n.threshold (sym v.2) (sym v.3)) ∙ sym f ∙ g;
    }

-- 5, and 7
module _ (s q : List ℕ) (well : well_formed_file s ≡ true) where
  pub ask_refused : (r : Refusal) (x : ℕ) → read.refused (number_of r) ≡ read.verdict q → number (number_of r) ≡ returned (ask_summary s q x)
  ask_refused r x e = let v = verdict_refused q (number_of r) e in ap number v.1 ∙ ask_five s q x well v.0

  pub list_refused : (r : Refusal) (d : List ℕ) → read.refused (number_of r) ≡ read.verdict q → Gives (Err r) d d (list s q (length d))
  list_refused r d e =
      let v = verdict_refused q (number_of r) e in
      gives_this _ _ _ _ _ (ap Answers.refused v.1 ∙ list_five s q (length d) well v.0) (gives_refused r d)

  module _ (n : Needs) (b : Bool) (e : read.accepted n.depth n.threshold ≡ read.verdict q)
      (f : b ≡ (ltb (summary_in s).level n.depth || ltb ((summary_in s).near_cap + 1) n.threshold)) (g : b ≡ true) where
    pub ask_too_deep : (x : ℕ) → number 7 ≡ returned (ask_summary s q x)
    ask_too_deep x =
        let v = verdict_accepted q n.depth n.threshold e in
        ask_seven s q x well v.0 v.1 (sym (beyond_by (summary_in s) v.0 n.depth n.threshold (sym v.2) (sym v.3)) ∙ sym f ∙ g)

    pub list_too_deep : (d : List ℕ) → Gives (Err Beyond) d d (list s q (length d))
    list_too_deep d =
        let v = verdict_accepted q n.depth n.threshold e in
        gives_this _ _ _ _ _
        (list_seven s q (length d) well v.0 v.1 (sym (beyond_by (summary_in s) v.0 n.depth n.threshold (sym v.2) (sym v.3)) ∙ sym f ∙ g))
        (gives_refused Beyond d)

pub list_refused_six : (s q : List ℕ) (r : Refusal) (d : List ℕ) → r ≡ Sixth → well_formed_file s ≡ false → Gives (Err r) d d (list s q (length d))
list_refused_six s q r d e f = gives_this _ _ _ _ _ (ap (λ r. Answers.refused (number_of r)) e ∙ list_six s q (length d) f) (gives_refused r d)

-- ---- what holds at a class, told of an item; and of every class, told as a list

module _ (s q : List ℕ) (well : well_formed_file s ≡ true) (n : Needs) (r : Reached s q n) where
  no_tree : Treeless q 0 → ⊥
  no_tree h = h r.tree _ (parsed_question q r.tree r.reads)

  pub asked : (x k : ℕ) → k ≡ class_at (summary_in s) x → x < length (summary_in s).map → (a : Result Bool Refusal) → Holds q 0 (summary_in s) k a →
      told a ≡ returned (ask_summary s q x)
  asked x k e u (Ok b) h =
      ap word (h r.tree _ (parsed_question q r.tree r.reads) ∙ at_class (summary_in s) r.tree k (class_at (summary_in s) x) e)
      ∙ ask_at s q x well r.tree r.reads r.within u
  asked x k e u (Err f) h = absurd (no_tree h)

  pub untold : (f : Refusal) (a : Result (Unit {0}) Refusal) (held : List Bool) (d : List ℕ) → a ≡ Err f → Answered q (summary_in s) 0 a held →
      Gives (Err Malformation) d d (list s q (length d))
  untold f (Ok u) held d e h = absurd (no_ok e)
    where
      no_ok : {u : Unit {0}} → ◌≡◌ {A = Result (Unit {0}) Refusal} (Ok u) (Err f) → ⊥
      no_ok e = let z : ◌≡◌ {A = ℕ} 0 1 = cc in omega arith
  untold f (Err g) held d e h = absurd (no_tree h)

  pub listed : (u : Unit {0}) (held : List Bool) (d ns : List ℕ) → length held ≡ length (summary_in s).classes → Answered q (summary_in s) 0 (Ok u) held →
      ns ≡ passing s held → into (length d) (pack put2 ns) ≡ list s q (length d)
  listed u held d ns l h e =
      let named =
      list_named s r.tree held well
      (λ c v. h r.tree _ (parsed_question q r.tree r.reads) c (omega (arith, l)) ∙ ap (holds_at (summary_in s) r.tree) (omega arith)) in
      ap (λ (l : List ℕ). into (length d) (pack put2 l)) (e ∙ named) ∙ list_into s q (length d) well r.tree r.reads r.within
