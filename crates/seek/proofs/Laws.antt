-- Laws of ascending keys: a search, what a place that it finds says, where classes start, marks set at keys, and when two ascending
-- lists are one.
-- Leans on Count's laws.
use mathlib.Core.Path.{◌≡◌, refl, sym, ap, ◌∙◌}
use mathlib.Core.Bool.{Bool, true, false, ◌&&◌, ◌||◌, or-true, or-false}
use mathlib.Core.Logic.{⊎_elim}
use mathlib.Core.List.{List, [], ◌∷◌}
use Prim.Native.Nat.{ℕ, ◌+◌, ◌/◌, ◌≤◌, ◌<◌}
use native.Mathlib.Omega.{arith}
use native.Mathlib.Numerals.{add-one}
use borrow.Author.Tests.{lt-ltb, ltb-true, ltb-false, eq-eqb, ne_eqb, eqb-true}
use lib.Dec.{eqb, ltb}
use lib.ListN.{length, get_or, take, set, length-set}
use lib.Seq.{take-suc, take-length, length-take-le, get_or-take, get_or-set_same, get_or-set_other}
use Rattle.meaning.specs.Count.{all, any, each, ascends}
use Rattle.theory.proofs.CountLaws.{by_bool, no, and_inv, and_yes, or_inv, bool_iff, eqb_sym, by_eq, all_yes, all_no, all_at, any_append, any_some, any_at, each_tab, every_and, each_every, each_yes, ascends_above, ascends_rest, ascends_at}
use Rattle.theory.proofs.ShapeLaws.{any_place}
use Rattle.lists.proofs.Laws.{front}
use Rattle.seek.specs.Keys.{same_members, Stands, Parted, key_class, Splits, Laid, Marks}

-- the keys ascend
abbrev Up : List ℕ → Type 0
Up ks = ascends (λ k. k) ks ≡ true

-- ---- the search: keys before low are less than the key, and none from high on is

module _ (ks : List ℕ) (key : ℕ) where
  pub parted_none : (n : ℕ) → length ks ≡ n → Parted ks key 0 n
  parted_none n e = record { less = λ i h. absurd (omega arith); rest = λ i h k. absurd (omega arith) }

  -- the middle key is less, and so are all before it; or it is not, and so is none behind it
  pub parted_up : (low high m : ℕ) → Up ks → Parted ks key low high → m < length ks → get_or ks m 0 < key → Parted ks key (m + 1) high
  parted_up low high m u p h t =
      record {
        less = λ i k. by_eq i m (λ e. rw e t) (λ e. omega (arith, ascends_at (λ k. k) 0 ks i m u (omega arith) h));
        rest = p.rest;
      }

  pub parted_down : (low high m : ℕ) → Up ks → Parted ks key low high → key ≤ get_or ks m 0 → Parted ks key low m
  parted_down low high m u p t =
      record {
        less = p.less;
        rest = λ i h k. by_eq m i (λ e. rw (← e) t) (λ e. omega (arith, ascends_at (λ k. k) 0 ks m i u (omega arith) k));
      }

  pub parted_stands : (low high : ℕ) → low ≡ high → low ≤ length ks → Parted ks key low high → Stands ks key low
  parted_stands low high e h p = record { within = h; before = p.less; behind = λ i k l. p.rest i (omega arith) l }

-- ---- where classes start

-- a key of a lesser class is less, and classes ascend with the keys
class_less : (x y : ℕ) → key_class x < key_class y → x < y
unfolding key_class
class_less x y h = omega arith

class_up : (x y : ℕ) → x ≤ y → key_class x ≤ key_class y
unfolding key_class
class_up x y h = omega arith

pub class_most : (x : ℕ) → key_class x ≤ 1023
unfolding key_class
class_most x = omega arith

pub class_low : (x : ℕ) → x / 4294967296 < 1023 → x / 4294967296 ≡ key_class x
unfolding key_class
class_low x h = omega arith

pub class_high : (x : ℕ) → 1023 ≤ x / 4294967296 → 1023 ≡ key_class x
unfolding key_class
class_high x h = omega arith

-- the starts of the classes below c are laid, and the i keys passed are of those classes
pub record Begun (starts ks : List ℕ) (c i : ℕ) : Type 0 where
  pub start : (k : ℕ) → k < c → Splits ks k (get_or starts k 0)
  pub passed : (j : ℕ) → j < i → key_class (get_or ks j 0) < c

module _ (ks starts : List ℕ) where
  pub begun_none : Begun starts ks 0 0
  begun_none = record { start = λ k h. absurd (omega arith); passed = λ j h. absurd (omega arith) }

  pub begun_pass : (c i : ℕ) → key_class (get_or ks i 0) < c → Begun starts ks c i → Begun starts ks c (i + 1)
  begun_pass c i t b =
      record {
        start = b.start;
        passed = λ j h. by_eq j i (λ e. rw e t) (λ e. b.passed j (omega arith));
      }

  -- class c starts at i where the keys before are of lesser classes and none from there on is
  laid_at : (c i : ℕ) → c < length starts → i ≤ length ks → ((j : ℕ) → i ≤ j → j < length ks → c ≤ key_class (get_or ks j 0)) → Begun starts ks c i
      → (k : ℕ) → k ≤ c → Splits ks k (get_or (set starts c i) k 0)
  laid_at c i h l t b k u =
      by_eq k c
      (λ e. rw (e, get_or-set_same starts c i 0 h) (record { within = l; before = b.passed; behind = t }))
      (λ e. rw (get_or-set_other starts c k i 0 e) (b.start k (omega arith)))

  pub begun_lay : (c i : ℕ) → c < length starts → i < length ks → Up ks → c ≤ key_class (get_or ks i 0) → Begun starts ks c i → Begun (set starts c i) ks (c + 1) i
  begun_lay c i h l u t b =
      record {
        start = λ k v. laid_at c i h (omega arith) (λ j p q. from j p q) b k (omega arith);
        passed = λ j v. omega (arith, b.passed j v);
      }
    where
      from : (j : ℕ) → i ≤ j → j < length ks → c ≤ key_class (get_or ks j 0)
      from j p q =
          by_eq i j
          (λ e. rw (← e) t)
          (λ e. omega (arith, t, class_up (get_or ks i 0) (get_or ks j 0) (omega (arith, ascends_at (λ k. k) 0 ks i j u (omega arith) q))))

  pub begun_laid : (c i : ℕ) → c < length starts → i ≡ length ks → Begun starts ks c i → Laid (set starts c i) ks c
  begun_laid c i h e b =
      record {
        room = rw (length-set starts c i) h;
        start = laid_at c i h (omega arith) (λ j p q. absurd (omega arith)) b;
        last = get_or-set_same starts c i 0 h ∙ e;
      }

module _ (ks starts : List ℕ) (c : ℕ) (l : Laid starts ks c) where
  -- a number of a class beyond all keys' stands behind them
  pub laid_beyond : (v k n : ℕ) → k ≡ key_class v → c ≤ k → n ≡ length ks → Stands ks v n
  laid_beyond v k n e h q =
      record {
        within = omega arith;
        before = λ i u. class_less (get_or ks i 0) v (omega (arith, (l.start c (omega arith)).before i (omega (arith, l.last))));
        behind = λ i u w. absurd (omega arith);
      }

  -- the others stand among the keys of their class
  laid_parted : (v k : ℕ) → k ≡ key_class v → k < c → Parted ks v (get_or starts k 0) (get_or starts (k + 1) 0)
  laid_parted v k e h =
      record {
        less = λ i u. class_less (get_or ks i 0) v (omega (arith, (l.start k (omega arith)).before i u));
        rest = λ i u w. omega (arith, class_less v (get_or ks i 0) (omega (arith, (l.start (k + 1) (omega arith)).behind i u w)));
      }

  pub laid_order : (k : ℕ) → k < c → get_or starts k 0 ≤ get_or starts (k + 1) 0
  laid_order k h =
      by_bool (ltb (get_or starts (k + 1) 0) (get_or starts k 0))
      (λ t.
      let d = ltb-true (get_or starts (k + 1) 0) (get_or starts k 0) t in
      let one = l.start k (omega arith) in
      let two = l.start (k + 1) (omega arith) in
      absurd (omega (arith, d, one.before (get_or starts (k + 1) 0) d, two.behind (get_or starts (k + 1) 0) (omega arith) (omega (arith, one.within, d)))))
      (λ t. ltb-false (get_or starts (k + 1) 0) (get_or starts k 0) t)

  pub laid_near : (v k n : ℕ) → k ≡ key_class v → k < c → n ≡ length ks
      → (get_or starts k 0 ≤ get_or starts (k + 1) 0) × (get_or starts (k + 1) 0 ≤ n) × Parted ks v (get_or starts k 0) (get_or starts (k + 1) 0)
  laid_near v k n e h q = (laid_order k h, omega (arith, (l.start (k + 1) (omega arith)).within), laid_parted v k e h)

-- ---- the place found: the key is one of the keys exactly when it is the one at that place

pub stands_there : (ks : List ℕ) (key at : ℕ) → ascends (λ k. k) ks ≡ true → Stands ks key at → any (eqb key) ks ≡ (ltb at (length ks) && eqb (get_or ks at 0) key)
stands_there ks key at u s =
    bool_iff (any (eqb key) ks) (ltb at (length ks) && eqb (get_or ks at 0) key)
    (λ t.
    let f = any_place (eqb key) 0 ks t in
    let i = f.0 in
    let e : key ≡ get_or ks i 0 = eqb-true key (get_or ks i 0) f.2 in
    let q : at ≡ i = only i f.1 e in
    rw q (and_yes (lt-ltb i (length ks) f.1) (eq-eqb (get_or ks i 0) key (sym e))))
    (λ t.
    let f = and_inv (ltb at (length ks)) (eqb (get_or ks at 0) key) t in
    any_at (eqb key) 0 ks at (ltb-true at (length ks) f.0) (eqb_sym key (get_or ks at 0) ∙ f.1))
  where
    only : (i : ℕ) → i < length ks → key ≡ get_or ks i 0 → at ≡ i
    only i h e =
        by_bool (ltb i at)
        (λ t. absurd (omega (arith, s.before i (ltb-true i at t))))
        (λ t.
        let k : at ≤ i = ltb-false i at t in
        by_eq at i
        (λ q. q)
        (λ q. absurd (omega (arith, s.behind at (omega arith) (omega arith), ascends_at (λ k. k) 0 ks at i u (omega arith) h))))

-- ---- marks

module _ (keys : List ℕ) (v at : ℕ) (marked : List Bool) (u : Up keys) where
  key_in : (i : ℕ) → i < length keys → get_or keys i 0 ≡ v → any (eqb v) keys ≡ true
  key_in i k e =
      any_at (eqb v) 0 keys i k (eq-eqb v (get_or keys i 0) (sym e))

  -- a number that is no key changes no mark
  pub marks_kept : Stands keys v at → (at < length keys → get_or keys at 0 ≡ v → ⊥)
      → (false ≡ any (eqb v) keys) × ((i : ℕ) → i < length keys → get_or marked i false ≡ (get_or marked i false || eqb (get_or keys i 0) v))
  marks_kept s n =
      let none : any (eqb v) keys ≡ false =
      by_bool (any (eqb v) keys)
      (λ t.
      let f = and_inv (ltb at (length keys)) (eqb (get_or keys at 0) v) (sym (stands_there keys v at u s) ∙ t) in
      absurd (n (ltb-true at (length keys) f.0) (eqb-true (get_or keys at 0) v f.1)))
      (λ t. t) in (
        sym none,
        λ i k. rw (ne_eqb (get_or keys i 0) v (λ e. no (key_in i k e) none), or-false (get_or marked i false)),
      )

  rises : (a b : ℕ) → a < b → b < length keys → get_or keys a 0 < get_or keys b 0
  rises a b p q = ascends_at (λ k. k) 0 keys a b u p q

  apart : (a b : ℕ) → a < length keys → b < length keys → (a ≡ b → ⊥) → get_or keys a 0 ≡ get_or keys b 0 → ⊥
  apart a b k l n e =
      by_bool (ltb a b)
      (λ t. omega (arith, rises a b (ltb-true a b t) l))
      (λ t. omega (arith, rises b a (omega (arith, ltb-false a b t)) k))

  -- a number that is a key sets the mark of that key alone
  pub marks_set : at < length keys → length keys ≤ length marked → get_or keys at 0 ≡ v
      → (true ≡ any (eqb v) keys) × ((i : ℕ) → i < length keys → get_or (set marked at true) i false ≡ (get_or marked i false || eqb (get_or keys i 0) v))
  marks_set l g e = (
    sym (key_in at l e),
    λ i k.
        by_eq i at
        (λ q. rw (q, get_or-set_same marked at true false (omega arith), eq-eqb (get_or keys at 0) v e, or-true))
        (λ q. get_or-set_other marked at i true false q ∙ rw (ne_eqb (get_or keys i 0) v (λ f. apart i at k l q (f ∙ sym e)), or-false (get_or marked i false))),
  )

pub marks_none : (keys : List ℕ) (marked : List Bool) → ((i : ℕ) → i < length keys → get_or marked i false ≡ false) → Marks marked keys []
unfolding any
marks_none keys marked h = record { mark = h }

-- one number more is marked
pub marks_next : (keys needed : List ℕ) (j : ℕ) (old marked : List Bool) → j < length needed → Marks old keys (take j needed)
    → ((i : ℕ) → i < length keys → get_or marked i false ≡ (get_or old i false || eqb (get_or keys i 0) (get_or needed j 0))) → Marks marked keys (take (j + 1) needed)
unfolding any
marks_next keys needed j old marked h p s =
    record {
      mark = λ i k.
          s i k
          ∙ rw
          (p.mark i k, add-one j, take-suc needed j 0 h, any_append (eqb (get_or keys i 0)) (take j needed) (get_or needed j 0 ∷ []), or-false (eqb (get_or keys i 0) (get_or needed j 0)));
    }

-- ---- the members

-- a test of all numbers, as a loop makes it: all pass, or one does not
module _ (p : ℕ → Bool) (s : List ℕ) where
  each_place : each p s ≡ all (λ i. p (get_or s i 0)) (length s)
  each_place = ap (each p) (sym (take-length s) ∙ front s (length s) (omega arith)) ∙ each_tab p (λ i. get_or s i 0) (length s)

  pub each_passes : ((i : ℕ) → i < length s → p (get_or s i 0) ≡ true) → true ≡ each p s
  each_passes f = sym (each_place ∙ all_yes (λ i. p (get_or s i 0)) (length s) f)

  pub each_fails : (i : ℕ) → i < length s → p (get_or s i 0) ≡ false → false ≡ each p s
  each_fails i k f = sym (each_place ∙ all_no (λ i. p (get_or s i 0)) (length s) i k f)

-- every number that is needed is a key, and the keys that are needed are marked
pub members : (keys needed : List ℕ) (marked : List Bool) → each (λ a. any (eqb a) keys) needed ≡ true → Marks marked keys needed
    → all (λ i. get_or marked i false) (length keys) ≡ same_members keys needed
unfolding same_members
members keys needed marked e p =
    rw (e, each_place (λ b. any (eqb b) needed) keys)
    (bool_iff _ _
    (λ t. all_yes _ (length keys) (λ i k. sym (p.mark i k) ∙ all_at _ (length keys) i k t))
    (λ t. all_yes _ (length keys) (λ i k. p.mark i k ∙ all_at _ (length keys) i k t)))

-- some number that is needed is no key
pub members_no : (ks ns : List ℕ) → each (λ a. any (eqb a) ks) ns ≡ false → same_members ks ns ≡ false
unfolding same_members
members_no ks ns e = rw e

-- ---- an ascending list within another of the same length is the other

-- no member is below the first
least : (k : ℕ) (ks : List ℕ) → Up (k ∷ ks) → (a : ℕ) → any (eqb a) (k ∷ ks) ≡ true → k ≤ a
unfolding any
least k ks u a t =
    ⊎_elim
    (λ f. omega (arith, eqb-true a k f))
    (λ f. let s = any_some (eqb a) ks (ascends_above (λ k. k) k ks u) f in omega (arith, s.1, eqb-true a s.0 s.2))
    (or_inv (eqb a k) (any (eqb a) ks) t)

-- and the first stands nowhere else
first_only : (n : ℕ) (ns : List ℕ) → Up (n ∷ ns) → any (eqb n) ns ≡ true → ⊥
first_only n ns w t = let s = any_some (eqb n) ns (ascends_above (λ k. k) n ns w) t in omega (arith, s.1, eqb-true n s.0 s.2)

-- what is above the first member is a member of the rest
each_behind : (k : ℕ) (ks : List ℕ) (n : ℕ) (ns : List ℕ) → k ≤ n → Up (n ∷ ns) → each (λ a. any (eqb a) (k ∷ ks)) ns ≡ true → each (λ a. any (eqb a) ks) ns ≡ true
unfolding any
each_behind k ks n ns h w e =
    each_yes (λ a. any (eqb a) ks) ns
    (every_and (λ a. n < a) (λ a. any (eqb a) (k ∷ ks) ≡ true) ns (ascends_above (λ k. k) n ns w) (each_every (λ a. any (eqb a) (k ∷ ks)) ns e (λ a t. t)))
    (λ a t. ⊎_elim (λ f. absurd (omega (arith, t.0, eqb-true a k f))) (λ f. f) (or_inv (eqb a k) (any (eqb a) ks) t.1))

pub sub_same : (ks ns : List ℕ) → ascends (λ k. k) ks ≡ true → ascends (λ k. k) ns ≡ true → each (λ a. any (eqb a) ks) ns ≡ true → length ns ≡ length ks → ns ≡ ks
unfolding any each
sub_same [] [] u w e l = refl
sub_same [] (n ∷ ns) u w e l = absurd (omega arith)
sub_same (k ∷ ks) [] u w e l = absurd (omega arith)
sub_same (k ∷ ks) (n ∷ ns) u w e l =
    let p = and_inv (eqb n k || any (eqb n) ks) (each (λ a. any (eqb a) (k ∷ ks)) ns) e in
    let low : k ≤ n = least k ks u n p.0 in
    let rest : ns ≡ ks = sub_same ks ns (ascends_rest (λ k. k) k ks u) (ascends_rest (λ k. k) n ns w) (each_behind k ks n ns low w p.1) (omega arith) in
    let head : n ≡ k =
    ⊎_elim (eqb-true n k) (λ t. absurd (first_only n ns w (rw (← rest) at t))) (or_inv (eqb n k) (any (eqb n) ks) p.0) in
    cc

-- marks that stand at the front of a longer list
pub marked_front : (marked : List Bool) (n : ℕ) → n ≤ length marked → all (λ i. get_or (take n marked) i false) (length (take n marked)) ≡ all (λ i. get_or marked i false) n
marked_front marked n h =
    rw (length-take-le n marked h)
    (bool_iff _ _
    (λ t. all_yes _ n (λ i k. sym (get_or-take n marked i false k) ∙ all_at _ n i k t))
    (λ t. all_yes _ n (λ i k. get_or-take n marked i false k ∙ all_at _ n i k t)))
