-- What is said of a tree, put together from what is said of its operands; and what is kept: nothing is known at first, what is kept is the
-- answer, an answer may be kept. Over any truth of a tree.
use mathlib.Core.Path.{◌≡◌, refl, sym, ap, subst, ◌∙◌}
use mathlib.Core.Bool.{Bool, true, false, not, cond, ◌&&◌, ◌||◌}
use mathlib.Core.Logic.{◌⊎◌, inl, inr, ⊎_elim}
use mathlib.Core.List.{List}
use mathlib.Core.Option.{some}
use Prim.Native.Nat.{ℕ, ◌+◌, ◌*◌, ◌≤◌, ◌<◌}
use native.Mathlib.Omega.{arith}
use borrow.Author.Tests.{ltb-true, ltb-false, lt-ltb, le-ltb}
use lib.Dec.{ltb}
use lib.IntN.{ℤ}
use lib.ListN.{length, get_or, set, replicate, length-set, length-replicate, get_or-replicate, get_or-eq_default}
use lib.Seq.{get_or-set_same, get_or-set_other, set_out}
use Rattle.std.proofs.Common.{Some, Ok}
use Rattle.meaning.specs.declared.Kind.{Kind}
use Rattle.meaning.specs.declared.Kind.TheVariants.{True, Literal, Not}
use Rattle.meaning.specs.Question.{Question, always, literal, negation, both, either, shows}
use Rattle.theory.proofs.CountLaws.{by_bool, by_eq}
use Rattle.entry.specs.Entries.{entry_at}
use Rattle.question.specs.declared.Tree.{Tree}
use Rattle.question.specs.Read.{Parsed, Spans}
use Rattle.question.proofs.Laws.{forward, parsed_true, parsed_literal, parsed_not, parsed_and, parsed_or, parsed_one}
use Rattle.question.proofs.Steps.{Two}
use Rattle.memo.specs.Kept.{Says, any, decides, tell, recalled, slot, Remembers}

-- ---- two operands

-- what an entry of two operands says of them
abbrev pub joins : Bool → Bool → Bool → Bool
joins any x y = cond any (x || y) (x && y)

-- where the first decides, and where it does not
decided : (any x y : Bool) → cond any x (not x) ≡ true → joins any x y ≡ x
decided true true y h = refl
decided true false y h = cc
decided false true y h = cc
decided false false y h = refl

undecided : (any x y : Bool) → cond any x (not x) ≡ false → joins any x y ≡ y
undecided true true y h = cc
undecided true false y h = refl
undecided false true y h = refl
undecided false false y h = cc

-- ---- what is said of a tree, by the kind of its first entry

-- a truth that takes trees apart as document 01 does, where these marks are looked at
pub record Truth (m : ℕ) (so : Question → Bool) : Type 0 where
  pub at_true : so always ≡ true
  pub at_literal : (z : ℤ) → so (literal z) ≡ shows m z
  pub at_not : (t : Question) → so (negation t) ≡ not (so t)
  pub at_and : (t u : Question) → so (both t u) ≡ so t && so u
  pub at_or : (t u : Question) → so (either t u) ≡ so t || so u

module _ {m : ℕ} {so : Question → Bool} (w : Truth m so) (q : List ℕ) (i : ℕ) where
  pub says_true : entry_at q i ≡ some True → Says q i so true
  says_true e t k p = sym (ap so (parsed_true p e).0 ∙ w.at_true)

  pub says_literal : (z : ℤ) (n : ℕ) (b : Bool) → entry_at q i ≡ some (Literal z) → n ≡ m → b ≡ shows n z → Says q i so b
  says_literal z n b e f g t k p = g ∙ ap (λ (n : ℕ). shows n z) f ∙ sym (ap so (parsed_literal p e).0 ∙ w.at_literal z)

  pub says_not : (b : Bool) → entry_at q i ≡ some Not → Says q (i + 1) so b → Says q i so (not b)
  says_not b e f t k p = let o = parsed_not p e in ap not (f o.0 k o.2) ∙ sym (ap so o.1 ∙ w.at_not o.0)

  module _ (kind : Kind) (two : Two kind) (e : entry_at q i ≡ some kind) where
    -- the first operand stands at the next entry, the second where the first ends
    operands : (t : Question) (k : ℕ) → Parsed q i t k →
        (p : Question) × (r : Question) × (m : ℕ) × (so t ≡ joins (any kind) (so p) (so r)) × Parsed q (i + 1) p m × Parsed q m r k
    operands t k p =
        ⊎_elim
        (λ h.
        let o = parsed_and p (e ∙ ap some h) in
        (o.0, o.1, o.2, ap so o.3 ∙ w.at_and o.0 o.1 ∙ ap (λ (b : Bool). joins b (so o.0) (so o.1)) (sym (ap any h)), o.4, o.5))
        (λ h.
        let o = parsed_or p (e ∙ ap some h) in
        (o.0, o.1, o.2, ap so o.3 ∙ w.at_or o.0 o.1 ∙ ap (λ (b : Bool). joins b (so o.0) (so o.1)) (sym (ap any h)), o.4, o.5))
        two

    module _ (b : Bool) (first : Says q (i + 1) so b) where
      -- the first operand decides
      pub says_first : decides kind b ≡ true → Says q i so b
      says_first h t k p =
          let o = operands t k p in
          let says = first o.0 o.2 o.4 in
          says ∙ sym (o.3 ∙ decided (any kind) (so o.0) (so o.1) (subst (λ (b : Bool). cond (any kind) b (not b) ≡ true) says h))

      -- or the second does
      pub says_second : decides kind b ≡ false → (s : Tree) → Spans q (i + 1) (Ok s) → (d : Bool) → Says q s.next so d → Says q i so d
      unfolding Spans
      says_second h s spans d second t k p =
          let o = operands t k p in
          let says = first o.0 o.2 o.4 in
          second o.1 k (subst (λ (y : ℕ). Parsed q y o.1 k) (parsed_one o.4 spans.1).1 o.5)
          ∙ sym (o.3 ∙ undecided (any kind) (so o.0) (so o.1) (subst (λ (b : Bool). cond (any kind) b (not b) ≡ false) says h))

-- the entry after a tree is further on
pub spans_on : (q : List ℕ) (i : ℕ) (s : Tree) → Spans q i (Ok s) → i < s.next
unfolding Spans
spans_on q i s spans = forward spans.1

-- ---- what is kept

by_lt : {P : Type 0} (a b : ℕ) → (a < b → P) → (b ≤ a → P) → P
by_lt a b f g = by_bool (ltb a b) (λ e. f (ltb-true a b e)) (λ e. g (ltb-false a b e))

-- what was kept of a truth is that truth
recalled_tell : (b : Bool) → recalled (tell b) ≡ Some b
recalled_tell true = refl
recalled_tell false = refl

-- a list of zeros is zero anywhere
pub zeros : (n j : ℕ) → ◌≡◌ {A = ℕ} (get_or (replicate n 0) j 0) 0
zeros n j = by_lt j n (get_or-replicate {A = ℕ} n j 0 0) (λ h. get_or-eq_default (replicate n 0) 0 (omega (arith, h, length-replicate {A = ℕ} n 0)))

pub remembers_none : (q : List ℕ) (truth : Question → ℕ → Bool) (n : ℕ) → n ≤ 65536 → Remembers q truth (replicate n 0)
remembers_none q truth n h = record { short = omega (arith, h, length-replicate {A = ℕ} n 0); so = λ i x u v t k p. inl (zeros n (1024 * i + x)) }

module _ (q : List ℕ) (truth : Question → ℕ → Bool) (known : List ℕ) (r : Remembers q truth known) (i x : ℕ) (v : x < 1024) where
  -- what was kept is the answer
  pub recalled_so : (b : Bool) → Some b ≡ recalled (get_or known (slot i x) 0) → Says q i (λ t. truth t x) b
  recalled_so b e t k p = by_lt i 64 inside outside
    where
      inside : i < 64 → b ≡ truth t x
      inside u =
          let f : Some b ≡ recalled (get_or known (1024 * i + x) 0) = e ∙ ap (λ (b : Bool). recalled (get_or known (cond b (1024 * i + x) 65536) 0)) (lt-ltb i 64 u) in
          ⊎_elim
          (λ z. let g : Some b ≡ recalled 0 = f ∙ ap recalled z in cc)
          (λ z. let g : Some b ≡ Some (truth t x) = f ∙ ap recalled z ∙ recalled_tell (truth t x) in cc)
          (r.so i x u v t k p)

      outside : 64 ≤ i → b ≡ truth t x
      outside u =
          let f : Some b ≡ recalled (get_or known 65536 0) = e ∙ ap (λ (b : Bool). recalled (get_or known (cond b (1024 * i + x) 65536) 0)) (le-ltb i 64 u) in
          let g : Some b ≡ recalled 0 = f ∙ ap recalled (get_or-eq_default known 0 r.short) in
          cc

  -- and an answer may be kept
  pub remembers_kept : (b : Bool) → Says q i (λ t. truth t x) b → Remembers q truth (set known (slot i x) (tell b))
  remembers_kept b says = record { short = simp length-set r.short; so = λ j y u w t k p. by_lt i 64 (inside j y u w t k p) (outside j y u w t k p) }
    where
      Kept : ℕ → ℕ → Question → Type 0
      Kept j y t = (get_or (set known (slot i x) (tell b)) (1024 * j + y) 0 ≡ 0) ⊎ (get_or (set known (slot i x) (tell b)) (1024 * j + y) 0 ≡ tell (truth t y))

      other : (j y : ℕ) → j < 64 → y < 1024 → (t : Question) (k : ℕ) → Parsed q j t k →
          get_or (set known (slot i x) (tell b)) (1024 * j + y) 0 ≡ get_or known (1024 * j + y) 0 → Kept j y t
      other j y u w t k p e = ⊎_elim (λ z. inl (e ∙ z)) (λ z. inr (e ∙ z)) (r.so j y u w t k p)

      outside : (j y : ℕ) → j < 64 → y < 1024 → (t : Question) (k : ℕ) → Parsed q j t k → 64 ≤ i → Kept j y t
      outside j y u w t k p h =
          let e : slot i x ≡ 65536 = ap (λ (c : Bool). cond c (1024 * i + x) 65536) (le-ltb i 64 h) in
          other j y u w t k p (ap (λ (l : List ℕ). get_or l (1024 * j + y) 0) (set_out known (slot i x) (tell b) (omega (arith, e, r.short))))

      here : (j y : ℕ) (t : Question) (k : ℕ) → Parsed q j t k → j ≡ i → y ≡ x → get_or (set known (slot i x) (tell b)) (1024 * j + y) 0 ≡ tell b → Kept j y t
      here j y t k p e f z = inr (z ∙ ap tell (says t k (subst (λ (n : ℕ). Parsed q n t k) e p) ∙ ap (truth t) (sym f)))

      inside : (j y : ℕ) → j < 64 → y < 1024 → (t : Question) (k : ℕ) → Parsed q j t k → i < 64 → Kept j y t
      inside j y u w t k p h =
          let e : slot i x ≡ 1024 * i + x = ap (λ (c : Bool). cond c (1024 * i + x) 65536) (lt-ltb i 64 h) in
          by_eq (1024 * j + y) (slot i x)
          (λ z. by_lt (slot i x) (length known)
          (λ s.
          here j y t k p (omega (arith, z, e)) (omega (arith, z, e))
          (ap (λ (m : ℕ). get_or (set known (slot i x) (tell b)) m 0) z ∙ get_or-set_same known (slot i x) (tell b) 0 s))
          (λ s. other j y u w t k p (ap (λ (l : List ℕ). get_or l (1024 * j + y) 0) (set_out known (slot i x) (tell b) s))))
          (λ z. other j y u w t k p (get_or-set_other known (slot i x) (1024 * j + y) (tell b) 0 z))
