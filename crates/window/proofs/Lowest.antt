-- "the group's lowest-numbered class": where classes are entered at their groups from the last to the first, the lowest is the one that
-- stays. Leans on theory's laws of searches.
use mathlib.Core.Path.{◌≡◌, refl, sym, ap, ◌∙◌}
use mathlib.Core.Bool.{Bool, true, cond}
use mathlib.Core.List.{List}
use Prim.Native.Nat.{ℕ, suc, ◌-◌, ◌<◌}
use native.Mathlib.Omega.{arith}
use borrow.Author.Tests.{eq-eqb, ne_eqb}
use lib.Dec.{eqb}
use lib.ListN.{length, get_or, set}
use lib.Seq.{get_or-set_same, get_or-set_other}
use Rattle.meaning.specs.Count.{seek}
use Rattle.meaning.specs.Summary.{Summary, class_of, lowest_class}
use Rattle.meaning.specs.WellFormed.{well_formed}
use Rattle.meaning.specs.SummaryFile.{summary_in, well_formed_file}
use Rattle.header.proofs.File.{well_file, groups_file}
use Rattle.theory.proofs.CountLaws.{by_eq, seek_from}
use Rattle.theory.proofs.ShapeLaws.{well_shaped}

module _ (S : Summary) where
  abbrev c : ℕ
  c = length S.classes

  abbrev within : ℕ → ℕ → Bool
  within g k = eqb (class_of S k).group g

  -- the first class of the group, of those from k on
  abbrev first : ℕ → ℕ → ℕ
  first g k = seek (within g) k (c - k)

  -- of the classes from k on, the first of each group that has one among them is entered
  pub record Entered (lowest : List ℕ) (k : ℕ) : Type 0 where
    pub entered : (g : ℕ) → first g k < c → get_or lowest g 0 ≡ first g k

  pub none_entered : (lowest : List ℕ) (k : ℕ) → k ≡ c → Entered lowest k
  none_entered lowest k e = record { entered = λ g h. absurd (omega (arith, seek_from (within g) k (c - k))) }

  seek_one : (p : ℕ → Bool) (k n : ℕ) → seek p k (suc n) ≡ cond (p k) k (seek p (suc k) n)
  unfolding seek
  seek_one p k n = refl

  first_one : (g k j : ℕ) → k ≡ suc j → j < c → first g j ≡ cond (within g j) j (first g k)
  first_one g k j e h = let z : c - j ≡ suc (c - k) = omega arith in rw (z, e) (seek_one (within g) j (c - suc j))

  pub one_entered : (lowest : List ℕ) (k j g : ℕ) → k ≡ suc j → j < c → g ≡ (class_of S j).group → g < length lowest → Entered lowest k → Entered (set lowest g j) j
  one_entered lowest k j g e h f low m = record { entered = entering }
    where
      entering : (q : ℕ) → first q j < c → get_or (set lowest g j) q 0 ≡ first q j
      entering q u =
          by_eq q g
          (λ same.
          let t : within q j ≡ true = eq-eqb _ q (sym (same ∙ f)) in
          rw same (get_or-set_same lowest g j 0 low) ∙ sym (first_one q k j e h ∙ ap (λ (t : Bool). cond t j (first q k)) t))
          (λ other.
          let one : first q j ≡ first q k = first_one q k j e h ∙ ap (λ (t : Bool). cond t j (first q k)) (ne_eqb _ q (λ v. other (sym v ∙ sym f))) in
          get_or-set_other lowest g q j 0 other ∙ m.entered q (rw one at u) ∙ sym one)

  -- each group has a class, so once all classes are entered each group has its lowest
  pub lowest_below : well_formed S ≡ true → (g : ℕ) → g < S.groups → lowest_class S g < c
  lowest_below well g h = (well_shaped S well).groups_used g h

  pub all_entered : well_formed S ≡ true → (lowest : List ℕ) (k : ℕ) → k ≡ 0 → Entered lowest k → (g : ℕ) → g < S.groups → get_or lowest g 0 ≡ lowest_class S g
  unfolding lowest_class
  all_entered well lowest k e m g h =
      let z : c - k ≡ c = omega arith in
      let same : first g k ≡ lowest_class S g = rw (z, e) in
      m.entered g (rw same (lowest_below well g h)) ∙ same

-- a class's group has its place among 1,024
pub class_low : (s : List ℕ) → well_formed_file s ≡ true → (k g : ℕ) → g ≡ (class_of (summary_in s) k).group → k < length (summary_in s).classes → g < 1024
class_low s e k g f h = omega (arith, f, (well_shaped (summary_in s) (well_file s e).1).groups_in k h, groups_file s e)

pub ruleset lowest = (none_entered, one_entered, all_entered, class_low, well_file)
