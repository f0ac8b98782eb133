-- The numbers below x that pass, as a loop gathers them. Leans on theory's CountLaws.
use mathlib.Core.Path.{◌≡◌, ap}
use mathlib.Core.Bool.{Bool, true, false}
use mathlib.Core.List.{List, [], ◌∷◌, ◌++◌, append-nil}
use Prim.Native.Nat.{ℕ, zero, suc, ◌+◌, ◌≤◌, ◌<◌}
use native.Mathlib.Omega.{arith}
use native.Mathlib.Numerals.{add-one}
use lib.ListN.{length, take, set, length-append}
use lib.Seq.{take-suc-set}
use Rattle.meaning.specs.Count.{those}
use Rattle.meaning.specs.Summary.{class_at}
use Rattle.meaning.specs.SummaryFile.{summary_in, well_formed_file}
use Rattle.theory.proofs.CountLaws.{by_bool}
use Rattle.header.proofs.File.{class_in, few_items}

module _ (p : ℕ → Bool) where
  pub at_most : (x : ℕ) → length (those p x) ≤ x
  unfolding those
  at_most zero = omega arith
  at_most (suc x) =
      by_bool (p x)
      (λ e. rw e (omega (arith, at_most x, length-append (those p x) (x ∷ []))))
      (λ e. rw e (omega (arith, at_most x, length-append (those p x) [])))

  -- the next one: put where the last one ended, or passed over
  module _ (x r : ℕ) (out : List ℕ) (g : r ≡ length (those p x)) (h : take r out ≡ those p x) where
    pub one_more : r < length out → p x ≡ true → (r + 1 ≡ length (those p (x + 1))) × (take (r + 1) (set out r x) ≡ those p (x + 1))
    unfolding those
    one_more l e =
        let z : those p (x + 1) ≡ those p x ++ (x ∷ []) = rw (add-one, e) in
        (omega (arith, ap (λ (s : List ℕ). length s) z, length-append (those p x) (x ∷ [])), rw (z, add-one, take-suc-set out r x l, h))

    pub none_more : p x ≡ false → (r ≡ length (those p (x + 1))) × (take r out ≡ those p (x + 1))
    unfolding those
    none_more e = rw (add-one, e, append-nil (those p x)) (g, h)

-- the classes that items have
pub mapped : (s : List ℕ) (x : ℕ) → well_formed_file s ≡ true → x < length (summary_in s).map → class_at (summary_in s) x < length (summary_in s).classes
mapped s x w h = class_in s w x h

pub ruleset listed = (at_most, class_in, few_items)
