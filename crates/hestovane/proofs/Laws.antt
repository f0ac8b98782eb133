-- The refusals of each call in their order: what the answer is once the tests before have passed. Leans on meaning's Answers, and on
-- the laws of what a judged register and a judged question are.
use mathlib.Core.Path.{◌≡◌, refl, sym, ap, ◌∙◌}
use mathlib.Core.Bool.{Bool, true, false, cond}
use mathlib.Core.List.{List}
use Prim.Native.Nat.{ℕ, zero, suc, ◌≤◌, ◌<◌}
use native.Mathlib.Omega.{arith}
use borrow.Author.Tests.{lt-ltb, le-ltb}
use lib.Dec.{leb}
use lib.ListN.{length}
use Rattle.std.proofs.Common.{Err}
use Rattle.meaning.specs.Register.{items}
use Rattle.meaning.specs.WellFormed.{in_range}
use Rattle.meaning.specs.Check.{fits}
use Rattle.meaning.specs.Condense.{summary_of}
use Rattle.meaning.specs.RegisterFile.{register_in, fault, verdict, verdict_by, accepted, refused}
use Rattle.meaning.specs.QuestionFile.{question}
use Rattle.meaning.specs.Answers.{Answer, number, word, wrote, returned, left, into, unless, condense, check, ask_tree, ask_register}
use Rattle.meaning.specs.Answers
use Rattle.meaning.specs.SummaryFile.{summary_bytes, summary_in, well_formed_file}
use Rattle.meaning.specs.Refusals.{number_of}
use Rattle.meaning.specs.declared.Refusal.{Refusal}
use Rattle.meaning.specs.declared.Refusal.TheVariants.{Range}
use Rattle.theory.proofs.WellMade.{level_least}
use Rattle.said.specs.Written.{Gives}
use Rattle.promise.proofs.Promise.{summary_most, in_range_law}
use Rattle.question.specs.Read as read
use Rattle.question.proofs.Laws.{verdict_accepted, verdict_refused}
use Rattle.register.specs.Told.{OfRegister}
use Rattle.inquiry.specs.Known.{Whole, asked}
use Rattle.said.specs.Written.{Short}

-- ---- the register

-- a refused register is refused with its number, whatever else is asked
refused_first : (b : List ℕ) (k : ℕ) (a : Answer) → refused k ≡ verdict b → number k ≡ returned (unless (fault b) a)
unfolding verdict verdict_by unless returned
refused_first b k a e = go (fault b) e
  where
    go : (j : ℕ) → refused k ≡ verdict_by j (Rattle.meaning.specs.Bytes.num2 b 0) (Rattle.meaning.specs.Bytes.num2 b 2) → number k ≡ returned (unless j a)
    go zero e = let z : ◌≡◌ {A = ℕ} 0 1 = cc in absurd (omega arith)
    go (suc j) e = let s : k ≡ suc j = cc in ap number s

-- and changes nothing
refused_leaves : (b : List ℕ) (k : ℕ) (a : Answer) (d : List ℕ) → refused k ≡ verdict b → d ≡ left (unless (fault b) a) d
unfolding verdict verdict_by unless left
refused_leaves b k a d e = go (fault b) e
  where
    go : (j : ℕ) → refused k ≡ verdict_by j (Rattle.meaning.specs.Bytes.num2 b 0) (Rattle.meaning.specs.Bytes.num2 b 2) → d ≡ left (unless j a) d
    go zero e = let z : ◌≡◌ {A = ℕ} 0 1 = cc in absurd (omega arith)
    go (suc j) e = refl

-- ---- asking a register

module _ (b q : List ℕ) (x : ℕ) where
  pub ask_refused : (k : ℕ) → refused k ≡ verdict b → number k ≡ returned (ask_register b q x)
  unfolding ask_register
  ask_refused k e = refused_first b k (ask_tree b x (question q)) e

  pub ask_accepted : fault b ≡ 0 → returned (ask_tree b x (question q)) ≡ returned (ask_register b q x)
  unfolding ask_register unless
  ask_accepted e = sym (rw e)

  pub ask_malformed : (k : ℕ) → read.refused k ≡ read.verdict q → number k ≡ returned (ask_tree b x (question q))
  unfolding ask_tree returned
  ask_malformed k e = let s = verdict_refused q k e in rw s.0 (ap number s.1)

  module _ (n m : ℕ) (r : OfRegister b n m) (w : Whole q) where
    pub ask_beyond : n ≤ x → number 8 ≡ returned (ask_tree b x (question q))
    unfolding ask_tree returned
    ask_beyond h = sym (rw (w.reads, le-ltb x (items (register_in b)) (omega (arith, r.items_are))))

    pub ask_said : x < n → word (asked (register_in b) (question q) x) ≡ returned (ask_tree b x (question q))
    unfolding ask_tree returned asked
    ask_said h = rw w.reads (sym (rw (lt-ltb x (items (register_in b)) (omega (arith, r.items_are)))))

-- a question that is not refused has a tree
pub whole : (q : List ℕ) (d t : ℕ) → read.accepted d t ≡ read.verdict q → Whole q
whole q d t e = let s = verdict_accepted q d t e in record { tree = s.0; reads = s.1 }

-- ---- checking

module _ (b s : List ℕ) where
  pub check_refused : (k : ℕ) → refused k ≡ verdict b → number k ≡ returned (check b s)
  unfolding check
  check_refused k e = refused_first b k _ e

  module _ (f : fault b ≡ 0) where
    pub check_six : well_formed_file s ≡ false → number 6 ≡ returned (check b s)
    unfolding check unless returned
    check_six e = sym (rw (f, e))

    pub check_said : well_formed_file s ≡ true → word (fits (register_in b) (summary_in s)) ≡ returned (check b s)
    unfolding check unless returned
    check_said e = sym (rw (f, e))

-- ---- condensing

module _ (b d : List ℕ) (i µ ν : ℕ) where
  pub condense_refused : (r : Refusal) → refused (number_of r) ≡ verdict b → Gives (Err r) d d (condense i µ ν b (length d))
  unfolding condense
  condense_refused r e =
      record { says = refused_first b (number_of r) _ e; leaves = refused_leaves b (number_of r) _ d e }

  module _ (f : fault b ≡ 0) where
    pub condense_four : in_range i µ ν ≡ false → Gives (Err Range) d d (condense i µ ν b (length d))
    unfolding condense unless returned left
    condense_four e = record { says = sym (rw (f, e)); leaves = sym (rw (f, e)) }

    pub condense_fits : in_range i µ ν ≡ true → into (length d) (summary_bytes (summary_of i µ ν (register_in b))) ≡ condense i µ ν b (length d)
    unfolding condense unless
    condense_fits e = sym (rw (f, e))

-- what is written is short enough for C
pub condense_short : (b : List ℕ) (room i µ ν : ℕ) → Short (returned (condense i µ ν b room))
unfolding condense unless into returned Short
condense_short b room i µ ν = let p = summary_bytes (summary_of i µ ν (register_in b)) in go p (summary_most i µ ν b) (fault b) refl (in_range i µ ν) (leb (length p) room)
  where
    go : (p : List ℕ) → (fault b ≡ 0 → length p ≤ 55320) → (k : ℕ) → fault b ≡ k → (s t : Bool) →
        Short (returned (unless k (cond s (cond t (wrote p) (Answers.refused 9)) (Answers.refused 4))))
    go p h zero e true true = h e
    go p h zero e true false = tt
    go p h zero e false t = tt
    go p h (suc k) e s t = tt

-- the bounds of what is in range
pub range_low : (i µ ν : ℕ) → in_range i µ ν ≡ true → (1 ≤ i) × (µ ≤ 7) × (ν ≤ 15)
range_low i µ ν e = let r = in_range_law i µ ν e in (level_least i µ ν e, r.1, r.2)
