-- Items listed by a key: the first one alike is found among those of the same key before it. Nothing is asked of the key but
-- that items alike have the same. Leans on order's laws of sorted lists and on theory's laws of lowest items.
use mathlib.Core.Path.{◌≡◌, sym, ap, ◌∙◌}
use mathlib.Core.Bool.{Bool, true}
use mathlib.Core.List.{List, [], ◌∷◌}
use Prim.Native.Nat.{ℕ, zero, suc, ◌-◌, ◌/◌, ◌≤◌, ◌<◌}
use native.Mathlib.Omega.{arith}
use borrow.Author.Tests.{eqb-true, ltb-true, ltb-false}
use lib.Dec.{eqb, ltb}
use lib.ListN.{length, get_or}
use lib.Seq.{take-length}
use Rattle.meaning.specs.Count.{tab, seek, total}
use Rattle.meaning.specs.Level.{first, Equivalence}
use Rattle.theory.proofs.CountLaws.{by_bool, by_eq, eqb_refl, seek_end, seek_le, seek_passes, length_tab, get_d_tab}
use Rattle.theory.proofs.NumberLaws.{first_le, first_like, first_lowest}
use Rattle.order.specs.Sorted.{sorted, times}
use Rattle.order.proofs.Laws.{ascends_up, sorted_ascends, sorted_times, length_sorted}
use Rattle.marked.specs.Lowest.{pack, Listed, item}

-- ---- a sorted list of packed items is such a list

-- what is counted stands somewhere, and what stands somewhere is counted
times_find : (v : ℕ) (l : List ℕ) → 1 ≤ times v l → (p : ℕ) × (p < length l) × (get_or l p 0 ≡ v)
unfolding total
times_find v [] h = absurd (omega arith)
times_find v (x ∷ l) h =
    by_bool (eqb v x)
    (λ t. (0, omega arith, sym (eqb-true v x t)))
    (λ t.
    let r = times_find v l (omega (arith, rw t at h)) in
    (suc r.0, omega (arith, r.1), r.2))

times_at : (l : List ℕ) (p : ℕ) → p < length l → 1 ≤ times (get_or l p 0) l
unfolding total
times_at [] p h = absurd (omega arith)
times_at (x ∷ l) zero h = rw (eqb_refl x) (omega arith)
times_at (x ∷ l) (suc p) h = omega (arith, times_at l p (omega arith))

module _ (key : ℕ → ℕ) (n : ℕ) (s : List ℕ) (e : s ≡ sorted (tab (pack key) n) n) where
  same : (v : ℕ) → times v s ≡ times v (tab (pack key) n)
  same v =
      let h : length (tab (pack key) n) ≡ n = length_tab (pack key) n in
      rw e (sorted_times v (tab (pack key) n) n (omega arith) ∙ ap (times v) (rw h at (take-length (tab (pack key) n))))

  long : length s ≡ n
  long = ap length e ∙ length_sorted (tab (pack key) n) n

  pub listed : Listed key n s
  listed = record {
    here = λ p h.
        let r = times_find (get_or s p 0) (tab (pack key) n) (omega (arith, same (get_or s p 0), times_at s p (omega (arith, long)))) in
        let k : r.0 < n = omega (arith, r.1, length_tab (pack key) n) in
        (r.0, k, sym r.2 ∙ get_d_tab (pack key) 0 n r.0 k);
    there = λ y h.
        let v = get_or (tab (pack key) n) y 0 in
        let r = times_find v s (omega (arith, same v, times_at (tab (pack key) n) y (omega (arith, length_tab (pack key) n)))) in
        (r.0, omega (arith, r.1, long), r.2 ∙ get_d_tab (pack key) 0 n y h);
    up = λ p q h g. ascends_up 0 s p q (rw e (sorted_ascends (tab (pack key) n) n)) h (omega (arith, long));
  }

-- ---- the first one alike

-- x is the item at place p, all places before r have other keys
module _ (like : ℕ → ℕ → Bool) (eq : Equivalence like) (key : ℕ → ℕ) (keyed : (x y : ℕ) → like x y ≡ true → key x ≡ key y)
    (n : ℕ) (few : n ≤ 1024) (s : List ℕ) (l : Listed key n s) (r p : ℕ) (h : r ≤ p) (g : p < n)
    (before : (q : ℕ) → q < r → get_or s q 0 / 1024 < get_or s p 0 / 1024) where
  pub found : item s (seek (λ q. like (item s q) (item s p)) r (p - r)) ≡ first like (item s p)
  found =
      let x = item s p in
      let P : ℕ → Bool = λ q. like (item s q) x in
      let k = seek P r (p - r) in
      let km = seek_end P r (p - r) in
      let kn : k < n = omega arith in
      let y = item s k in
      let f = first like x in
      let hx = l.here p g in
      let hk = l.here k kn in
      -- the item at k is alike x, and so is the first
      let ky : like y x ≡ true =
      by_eq k p (λ q. rw q (eq.self x)) (λ q. seek_passes P r (p - r) (omega arith)) in
      let fx : like f x ≡ true = first_like like eq x in
      let fy : f ≤ y = first_lowest like eq x y ky in
      let e1 = keyed y x ky in
      let e2 = keyed f x fx in
      let xy : x ≡ hx.0 = omega (arith, hx.1, hx.2) in
      let yy : y ≡ hk.0 = omega (arith, hk.1, hk.2) in
      let ek : key hk.0 ≡ key y = ap key (sym yy) in
      let ex : key hx.0 ≡ key x = ap key (sym xy) in
      let ff : f < n = omega (arith, hx.1, first_le like eq x) in
      let hf = l.there f ff in
      let z = hf.0 in
      let zf : item s z ≡ f = omega (arith, hf.2, hf.1, ff) in
      let rz : r ≤ z =
      by_bool (ltb z r) (λ v. absurd (omega (arith, before z (ltb-true z r v), hf.2, hx.2, hx.1)))
      (λ v. ltb-false z r v) in
      let kz : k ≤ z = seek_le P r (p - r) z rz (rw zf fx) in
      omega (arith, l.up k z kz hf.1, hf.2, hk.2)
