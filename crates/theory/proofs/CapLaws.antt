-- Laws of capped counts: what one says, that they add up as counts do, and that a threshold up to the cap plus one sees no cap.
use mathlib.Core.Path.{◌≡◌, refl}
use Prim.Native.Nat.{ℕ, zero, suc, ◌+◌, ◌≤◌, ◌<◌}
use native.Mathlib.Omega.{arith}
use borrow.Author.Tests.{le-leb, leb-true}
use lib.Dec.{leb}
use Rattle.meaning.specs.Count.{sum}
use Rattle.meaning.specs.Cap.{cap}
use Rattle.theory.proofs.CountLaws.{bool_iff}

-- ---- what a capped count says

-- the count itself up to the cap, and cap + 1 for anything more; and which of the two it is can be told
pub cap_exact : (k x : ℕ) → x ≤ k → cap k x ≡ x
cap_exact k x h = omega arith

pub cap_over : (k x : ℕ) → k < x → cap k x ≡ k + 1
cap_over k x h = omega arith

pub cap_tells : (k x : ℕ) → cap k x ≤ k → x ≤ k
cap_tells k x h = omega arith

pub cap_most : (k x : ℕ) → cap k x ≤ k + 1
cap_most k x = omega arith

-- ---- one more, and sums

-- "A capped count takes one more neighbour and gives back the capped count; adding two capped counts caps the sum again."
pub cap_more : (k x : ℕ) → cap k (cap k x + 1) ≡ cap k (x + 1)
cap_more k x = omega arith

pub cap_plus : (k x y : ℕ) → cap k (cap k x + cap k y) ≡ cap k (x + y)
cap_plus k x y = omega arith

-- a capped sum asks only for the capped summands
cap_add : (k a b c d : ℕ) → cap k a ≡ cap k c → cap k b ≡ cap k d → cap k (a + b) ≡ cap k (c + d)
cap_add k a b c d e f = omega arith

pub cap_cap : (k a : ℕ) → cap k (cap k a) ≡ cap k a
cap_cap k a = omega arith

pub cap_zero : (k a : ℕ) → cap k a ≡ 0 → a ≡ 0
cap_zero k a e = omega arith

-- ---- thresholds

-- for t ≤ k + 1, a count capped at k is at least t exactly when the count is
pub leb_capped : (k t x : ℕ) → t ≤ k + 1 → leb t (cap k x) ≡ leb t x
leb_capped k t x h =
    bool_iff (leb t (cap k x)) (leb t x)
    (λ u. le-leb t x (omega (arith, leb-true t (cap k x) u)))
    (λ u. le-leb t (cap k x) (omega (arith, leb-true t x u)))

-- a threshold up to k + 1 cannot tell a count from the capped count
pub leb_cap : (k t a b : ℕ) → t ≤ k + 1 → cap k a ≡ cap k b → leb t a ≡ leb t b
leb_cap k t a b h e =
    bool_iff (leb t a) (leb t b) (λ u. le-leb t b (omega (arith, leb-true t a u))) (λ u. le-leb t a (omega (arith, leb-true t b u)))

pub cap_sum : (k : ℕ) (f g : ℕ → ℕ) (n : ℕ) → ((i : ℕ) → i < n → cap k (f i) ≡ cap k (g i)) → cap k (sum f n) ≡ cap k (sum g n)
unfolding sum
cap_sum k f g zero h = refl
cap_sum k f g (suc n) h = cap_add k (sum f n) (f n) (sum g n) (g n) (cap_sum k f g n (λ i u. h i (omega arith))) (h n (omega arith))
