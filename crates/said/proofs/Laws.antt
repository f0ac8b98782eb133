-- A lent buffer too short for the answer, and one that takes it whole. Leans on wire's Sets.
use mathlib.Core.Path.{◌≡◌, sym, subst, ◌∙◌}
use mathlib.Core.List.{List}
use Prim.Native.Nat.{ℕ, ◌≤◌, ◌<◌}
use borrow.Author.Tests.{le-leb, lt-leb}
use lib.Dec.{leb}
use lib.ListN.{length}
use lib.Seq.{sets}
use Rattle.std.proofs.Common.{Result, Ok, Err}
use Rattle.meaning.specs.Answers.{Answer, returned, left, into}
use Rattle.meaning.specs.declared.Refusal.{Refusal}
use Rattle.meaning.specs.declared.Refusal.TheVariants.{Room}
use Rattle.wire.proofs.Sets.{sets_left}
use Rattle.said.specs.Written.{Gives}

module _ (d p : List ℕ) where
  pub no_room : length d < length p → Gives (Err Room) d d (into (length d) p)
  unfolding into returned left
  no_room h = let e : leb (length p) (length d) ≡ _ = lt-leb (length p) (length d) h in record { says = sym (rw e); leaves = sym (rw e) }

  pub whole : (d' : List ℕ) (k : ℕ) → k ≡ length p → length p ≤ length d → d' ≡ sets d 0 p → Gives (Ok k) d d' (into (length d) p)
  unfolding into returned
  whole d' k e h s = let f = le-leb (length p) (length d) h in record { says = rw (f, e); leaves = rw f (s ∙ sets_left d p h) }

pub gives_this : (w : Result ℕ Refusal) (d d' : List ℕ) (a b : Answer) → a ≡ b → Gives w d d' a → Gives w d d' b
gives_this w d d' a b e = subst (λ (a : Answer). Gives w d d' a) e
