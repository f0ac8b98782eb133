-- What a write leaves of a lent buffer, for every crate that writes: parts one after another, records one after another, and a
-- whole answer at the front. `sets d at p` is d with p written over it from place at. Leans on lib.Seq and on meaning's Bytes.
use mathlib.Core.Path.{◌≡◌, refl, sym, ap, ◌∙◌}
use mathlib.Core.List.{List, [], ◌∷◌, ◌++◌, append_assoc, append-nil}
use Prim.Native.Nat.{ℕ, zero, suc, ◌+◌, ◌*◌, ◌≤◌, ◌<◌}
use native.Mathlib.Omega.{arith}
use native.Mathlib.Nat.{add-zero, suc-add, add-suc}
use native.Mathlib.Numerals.{add-one}
use lib.ListN.{length, get_or, set, take, length-append}
use lib.Seq.{sets, sets-eq, take-suc, length-take-le}
use Rattle.meaning.specs.Count.{tab, join}
use Rattle.meaning.specs.Bytes.{put2, pack}
use Rattle.meaning.specs.Answers.{wrote, left}

-- ---- one part after another

sets_append : (d : List ℕ) (at : ℕ) (p q : List ℕ) → sets d at (p ++ q) ≡ sets (sets d at p) (at + length p) q
sets_append d at [] q = ap (λ (k : ℕ). sets d k q) (sym (add-zero at))
sets_append d at (x ∷ p) q =
    sets_append (set d at x) (suc at) p q
    ∙ ap (λ (k : ℕ). sets (sets (set d at x) (suc at) p) k q) (suc-add at (length p) ∙ sym (add-suc at (length p)))

-- d with p written at a place is x; then x with q written behind p is d with p and q written there
pub then : (d : List ℕ) (at : ℕ) (p q : List ℕ) {x y : List ℕ} (k : ℕ) → k ≡ at + length p → x ≡ sets d at p → y ≡ sets x k q → y ≡ sets d at (p ++ q)
then d at p q k e f g = g ∙ rw (f, e) (sym (sets_append d at p q))

-- ---- records one after another

-- the next record of a loop that writes f 0, f 1, ..
pub then_record : (f : ℕ → List ℕ) (d : List ℕ) (at i : ℕ) {x y : List ℕ} (k : ℕ) →
    k ≡ at + length (join f i) → x ≡ sets d at (join f i) → y ≡ sets x k (f i) → y ≡ sets d at (join f (i + 1))
unfolding join
then_record f d at i k e g h = rw add-one (then d at (join f i) (f i) k e g h)

pub length_records : (f : ℕ → List ℕ) (w : ℕ) → ((i : ℕ) → length (f i) ≡ w) → (n : ℕ) → length (join f n) ≡ w * n
unfolding join
length_records f w size zero = omega arith
length_records f w size (suc n) = omega (arith, length-append (join f n) (f n), size n, length_records f w size n)

pub pack_append : {A : Type 0} (put : A → List ℕ) (s t : List A) → pack put (s ++ t) ≡ pack put s ++ pack put t
unfolding pack
pack_append put [] t = refl
pack_append put (a ∷ s) t = ap (λ (r : List ℕ). put a ++ r) (pack_append put s t) ∙ sym (append_assoc (put a) (pack put s) (pack put t))

pack_more : {A : Type 0} (put : A → List ℕ) (s : List A) (a : A) → pack put (s ++ (a ∷ [])) ≡ pack put s ++ put a
unfolding pack
pack_more put s a = pack_append put s (a ∷ []) ∙ ap (λ (r : List ℕ). pack put s ++ r) (append-nil (put a))

-- records of a list that is made place by place
pub pack_tab : {A : Type 0} (put : A → List ℕ) (f : ℕ → A) (n : ℕ) → pack put (tab f n) ≡ join (λ k. put (f k)) n
unfolding pack tab join
pack_tab put f zero = refl
pack_tab put f (suc n) = pack_more put (tab f n) (f n) ∙ ap (λ (s : List ℕ). s ++ put (f n)) (pack_tab put f n)

-- ---- numbers, as a loop writes them

pub size_numbers : (s : List ℕ) → length (pack put2 s) ≡ 2 * length s
unfolding pack put2
size_numbers [] = omega arith
size_numbers (v ∷ s) = omega (arith, size_numbers s)

pub then_number : (d : List ℕ) (at : ℕ) (t : List ℕ) (k : ℕ) {x y : List ℕ} → k < length t →
    x ≡ sets d at (pack put2 (take k t)) → y ≡ sets x (at + 2 * k) (put2 (get_or t k 0)) → y ≡ sets d at (pack put2 (take (k + 1) t))
then_number d at t k h e f =
    let m : at + 2 * k ≡ at + length (pack put2 (take k t)) = omega (arith, size_numbers (take k t), length-take-le k t (omega arith)) in
    rw (add-one, take-suc t k 0 h, pack_more put2 (take k t) (get_or t k 0)) (then d at (pack put2 (take k t)) (put2 (get_or t k 0)) (at + 2 * k) m e f)

-- ---- a whole answer, from the front: "bytes past that length stay"

pub sets_left : (d p : List ℕ) → length p ≤ length d → sets d 0 p ≡ left (wrote p) d
unfolding left
sets_left d p h = sets-eq p d 0 (omega arith) ∙ (let e : 0 + length p ≡ length p = omega arith in rw e)
