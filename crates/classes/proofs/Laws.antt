-- One turn of the loop that enters items in their classes, and that its end is the class records. Leans on theory for searches and counts.
use mathlib.Core.Path.{◌≡◌, refl, sym, ap, ap₂, ◌∙◌}
use mathlib.Core.Bool.{Bool, true, false}
use mathlib.Core.List.{List, [], ◌∷◌, ◌++◌}
use Prim.Native.Nat.{ℕ, zero, suc, ◌+◌, ◌*◌, ◌/◌, ◌%◌, ◌≤◌, ◌<◌}
use native.Mathlib.Omega.{arith}
use borrow.Author.Tests.{eq-eqb}
use lib.Dec.{eqb}
use lib.ListN.{length, get_or, set, take, drop, replicate, length-set, get_or-replicate}
use lib.Seq.{take-add, drop-cons, get_or-set_same, get_or-set_other}
use Rattle.meaning.specs.Cap.{cap}
use Rattle.meaning.specs.Count.{sum, tally, join, seek}
use Rattle.meaning.specs.Register.{Register, items, marks_of}
use Rattle.meaning.specs.Level.{class_count, lowest_item}
use Rattle.meaning.specs.Condense.{by, class_for}
use Rattle.theory.proofs.CountLaws.{by_bool, by_eq, no, seek_le, seek_passes, join_same}
use Rattle.theory.proofs.NumberLaws.{tally_lt, get_d_below}
use Rattle.meaning.specs.RegisterFile.{register_in}
use Rattle.wire.proofs.Sets.{pack_tab}
use Rattle.summary.specs.Numbers.{class_numbers}
use Rattle.capped.proofs.Laws.{tally_own, tally_other}
use Rattle.classes.specs.Counted.{part, Sorted, Enters, Numbered}

-- ---- an item entered

module _ (u : List ℕ) (k marks group count : ℕ) (long : length u ≡ 4096) (h : k < 1024) where
  -- the first of its class: four numbers written one after the other
  module _ (a b : ℕ) where
    u1 : List ℕ
    u1 = set u (4 * k) a

    u2 : List ℕ
    u2 = set u1 (4 * k + 1) b

    u3 : List ℕ
    u3 = set u2 (4 * k + 2) group

    u4 : List ℕ
    u4 = set u3 (4 * k + 3) count

    kept : (i : ℕ) → (i ≡ 4 * k → ⊥) → (i ≡ 4 * k + 1 → ⊥) → (i ≡ 4 * k + 2 → ⊥) → (i ≡ 4 * k + 3 → ⊥) → get_or u4 i 0 ≡ get_or u i 0
    unfolding u1 u2 u3 u4
    kept i e f g z =
        get_or-set_other u3 (4 * k + 3) i count 0 z ∙ get_or-set_other u2 (4 * k + 2) i group 0 g ∙ get_or-set_other u1 (4 * k + 1) i b 0 f ∙ get_or-set_other u (4 * k) i a 0 e

    at_0 : part u4 k 0 ≡ a
    unfolding u1 u2 u3 u4
    at_0 =
        let z : 4 * k + 0 ≡ 4 * k = omega arith in
        ap (λ (i : ℕ). get_or u4 i 0) z
        ∙ get_or-set_other u3 (4 * k + 3) (4 * k) count 0 (λ s. omega arith)
        ∙ get_or-set_other u2 (4 * k + 2) (4 * k) group 0 (λ s. omega arith)
        ∙ get_or-set_other u1 (4 * k + 1) (4 * k) b 0 (λ s. omega arith)
        ∙ get_or-set_same u (4 * k) a 0 (omega arith)

    at_1 : part u4 k 1 ≡ b
    unfolding u1 u2 u3 u4
    at_1 =
        get_or-set_other u3 (4 * k + 3) (4 * k + 1) count 0 (λ s. omega arith)
        ∙ get_or-set_other u2 (4 * k + 2) (4 * k + 1) group 0 (λ s. omega arith)
        ∙ get_or-set_same u1 (4 * k + 1) b 0 (simp length-set (omega arith))

    at_2 : part u4 k 2 ≡ group
    unfolding u1 u2 u3 u4
    at_2 = get_or-set_other u3 (4 * k + 3) (4 * k + 2) count 0 (λ s. omega arith) ∙ get_or-set_same u2 (4 * k + 2) group 0 (simp length-set (omega arith))

    at_3 : part u4 k 3 ≡ count
    unfolding u1 u2 u3 u4
    at_3 = get_or-set_same u3 (4 * k + 3) count 0 (simp length-set (omega arith))

    pub enters_first : part u k 3 ≤ 0 → a ≡ marks / 65536 → b ≡ marks % 65536 →
        Enters u (set (set (set (set u (4 * k) a) (4 * k + 1) b) (4 * k + 2) group) (4 * k + 3) count) k marks group count
    unfolding u1 u2 u3 u4
    enters_first none e f =
        record {
          others = λ k' j g z. kept (4 * k' + j) (λ s. z (omega arith)) (λ s. z (omega arith)) (λ s. z (omega arith)) (λ s. z (omega arith));
          first = λ z. (at_0 ∙ e, at_1 ∙ f, at_2, at_3);
          later = λ z. absurd (omega arith);
        }

-- ---- the lowest item of a class

-- none of the numbers below x passes
none_passes : (p : ℕ → Bool) (x : ℕ) → tally p x ≡ 0 → (y : ℕ) → y < x → p y ≡ false
none_passes p x e y h = by_bool (p y) (λ t. absurd (omega (arith, tally_lt p y x t h))) (λ t. t)

first_found : (p : ℕ → Bool) (x n : ℕ) → x < n → tally p x ≡ 0 → p x ≡ true → seek p 0 n ≡ x
first_found p x n h e t =
    let le = seek_le p 0 n x (omega arith) t in
    by_eq (seek p 0 n) x (λ s. s)
    (λ s.
    let passes = seek_passes p 0 n (omega arith) in
    no passes (none_passes p x e (seek p 0 n) (omega arith)))

module _ (R : Register) (gs cs : List ℕ) (ν : ℕ) where
  abbrev among : ℕ → ℕ → ℕ
  among k x = tally (λ y. eqb (by cs y) k) x

  -- the record of class k once the items below x are entered: whole from its first item on
  pub record Under (u : List ℕ) (x k : ℕ) : Type 0 where
    pub empty : among k x ≡ 0 → part u k 3 ≡ 0
    pub whole : 1 ≤ among k x →
        (part u k 0 ≡ marks_of R (lowest_item cs k) / 65536) × (part u k 1 ≡ marks_of R (lowest_item cs k) % 65536) × (part u k 2 ≡ by gs (lowest_item cs k))
        × (part u k 3 ≡ cap ν (among k (length cs)))

  -- nothing is entered yet
  pub none_entered : (k : ℕ) → k < 1024 → Under (replicate 4096 0) 0 k
  unfolding sum
  none_entered k h = record { empty = λ g. get_or-replicate {A = ℕ} 4096 (4 * k + 3) 0 0 (omega arith); whole = λ g. absurd (omega arith) }

  -- one item more
  module _ (u v : List ℕ) (x count : ℕ) (below : x < length cs) (counted : count ≡ cap ν (among (by cs x) (length cs)))
      (enters : Enters u v (by cs x) (marks_of R x) (by gs x) count) where
    lowest_here : (k : ℕ) → by cs x ≡ k → among k x ≡ 0 → lowest_item cs k ≡ x
    unfolding lowest_item
    lowest_here k e z = first_found (λ y. eqb (get_or cs y 0) k) x (length cs) below z (eq-eqb (by cs x) k e)

    own : Under u x (by cs x) → Under v (x + 1) (by cs x)
    own w =
        let k = by cs x in
        let more = tally_own cs x k refl in
        let some : among k x < among k (length cs) = tally_lt (λ y. eqb (by cs y) k) x (length cs) (eq-eqb k k refl) below in
        by_eq (among k x) 0
        (λ z.
        let f = enters.first (w.empty z) in
        let low = lowest_here k refl z in
        record { empty = λ g. absurd (omega arith); whole = λ g. rw low (f.0, f.1, f.2, f.3 ∙ counted) })
        (λ z.
        let f = w.whole (omega arith) in
        let same = enters.later (omega (arith, f.3)) in
        record { empty = λ g. absurd (omega arith); whole = λ g. rw same f })

    other : (k : ℕ) → (k ≡ by cs x → ⊥) → Under u x k → Under v (x + 1) k
    other k e w =
        let same = tally_other cs x k (λ f. e (sym f)) in
        let kept : (j : ℕ) → j < 4 → part v k j ≡ part u k j = λ j h. enters.others k j h e in
        record {
          empty = λ g. kept 3 (omega arith) ∙ w.empty (omega arith);
          whole = λ g.
              let f = w.whole (omega arith) in
              (kept 0 (omega arith) ∙ f.0, kept 1 (omega arith) ∙ f.1, kept 2 (omega arith) ∙ f.2, kept 3 (omega arith) ∙ f.3);
        }

    pub entered : (k : ℕ) → Under u x k → Under v (x + 1) k
    entered k w = by_eq k (by cs x) (λ e. rw e (own (rw e at w))) (λ e. other k e w)

-- ---- the end: four numbers a class, one class behind the other

four : List ℕ → ℕ → List ℕ
four u k = part u k 0 ∷ part u k 1 ∷ part u k 2 ∷ part u k 3 ∷ []

four_at : (u : List ℕ) (k : ℕ) → 4 * k + 4 ≤ length u → take 4 (drop (4 * k) u) ≡ four u k
unfolding four
four_at u k h =
    let z : 4 * k + 0 ≡ 4 * k = omega arith in
    let a : 4 * k + 1 ≡ suc (4 * k) = omega arith in
    let b : 4 * k + 2 ≡ suc (suc (4 * k)) = omega arith in
    let c : 4 * k + 3 ≡ suc (suc (suc (4 * k))) = omega arith in
    rw (
      z,
      a,
      b,
      c,
      drop-cons u (4 * k) 0 (omega arith),
      drop-cons u (suc (4 * k)) 0 (omega arith),
      drop-cons u (suc (suc (4 * k))) 0 (omega arith),
      drop-cons u (suc (suc (suc (4 * k)))) 0 (omega arith),
    )

fours : (u : List ℕ) (n : ℕ) → 4 * n ≤ length u → take (4 * n) u ≡ join (four u) n
unfolding join
fours u zero h = refl
fours u (suc n) h =
    let e : 4 * suc n ≡ 4 * n + 4 = omega arith in
    rw e (take-add (4 * n) 4 u ∙ ap₂ (λ (s t : List ℕ). s ++ t) (fours u n (omega arith)) (four_at u n (omega arith)))

four_same : (u : List ℕ) (k a b c d : ℕ) → part u k 0 ≡ a → part u k 1 ≡ b → part u k 2 ≡ c → part u k 3 ≡ d → four u k ≡ a ∷ b ∷ c ∷ d ∷ []
unfolding four
four_same u k a b c d e f g h = rw (e, f, g, h)

-- every class is some item's, so its record is whole once all items are entered
pub all_entered : (R : Register) (gs cs u : List ℕ) (ν n : ℕ) → n ≡ items R → length cs ≡ n → length u ≡ 4096 → class_count cs ≤ 1024 →
    ((k : ℕ) → k < class_count cs → lowest_item cs k < n) → ((k : ℕ) → k < 1024 → Under R gs cs ν u n k) → Numbered u R gs cs ν
unfolding class_numbers class_for lowest_item
all_entered R gs cs u ν n e m long few used under =
    record {
      long = long;
      numbered = fours u (class_count cs) (omega arith) ∙ join_same (four u) _ (class_count cs) each ∙ sym (pack_tab class_numbers (class_for ν R gs cs) (class_count cs));
    }
  where
    each : (k : ℕ) → k < class_count cs → four u k ≡ class_numbers (class_for ν R gs cs k)
    each k h =
        let w = under k (omega arith) in
        let x = used k h in
        let some = tally_lt (λ y. eqb (by cs y) k) (lowest_item cs k) n (seek_passes (λ y. eqb (get_or cs y 0) k) 0 (length cs) (omega arith)) x in
        let f = w.whole (omega arith) in
        four_same u k _ _ _ _ f.0 f.1 f.2 (f.3 ∙ ap (λ (i : ℕ). cap ν (tally (λ y. eqb (by cs y) k) i)) (m ∙ e))

-- the same of a file's register of n items
module _ (b : List ℕ) (n : ℕ) (groups classes : List ℕ) (are : n ≡ items (register_in b)) (s : Sorted n groups classes) where
  pub class_small : (x : ℕ) → x < n → get_or classes x 0 < 1024
  class_small x h = omega (arith, get_d_below classes x (omega (arith, s.classes_there)), s.few)

  pub entered_in : (ν : ℕ) (u v : List ℕ) (x count : ℕ) → x < n → count ≡ cap ν (tally (λ y. eqb (get_or classes y 0) (get_or classes x 0)) (length classes)) →
      Enters u v (get_or classes x 0) (marks_of (register_in b) x) (get_or groups x 0) count →
      (k : ℕ) → Under (register_in b) groups classes ν u x k → Under (register_in b) groups classes ν v (x + 1) k
  entered_in ν u v x count h e enters k w =
      entered (register_in b) groups classes ν u v x count (omega (arith, s.classes_there)) e enters k w

  pub sorted_all : (ν : ℕ) (u : List ℕ) → length u ≡ 4096 → ((k : ℕ) → k < 1024 → Under (register_in b) groups classes ν u n k) →
      Numbered u (register_in b) groups classes ν
  sorted_all ν u long under = all_entered (register_in b) groups classes u ν n are s.classes_there long s.few s.used under
