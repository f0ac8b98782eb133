-- The five parts of the check put together: each that fails decides. Leans on meaning's Check.
use mathlib.Core.Path.{◌≡◌, sym, ◌∙◌}
use mathlib.Core.Bool.{Bool, true, false, ◌&&◌, and-false}
use Prim.Native.Nat.{ℕ}
use borrow.Author.Tests.{eq-eqb}
use lib.Dec.{eqb}
use lib.ListN.{length}
use Rattle.meaning.specs.Count.{tally, all, each}
use Rattle.meaning.specs.Cap.{cap}
use Rattle.meaning.specs.Register.{Register, items, marks_of}
use Rattle.meaning.specs.declared.Direction.TheVariants.{Outgoing, Incoming}
use Rattle.meaning.specs.Summary.{Summary, class_of, class_at}
use Rattle.meaning.specs.Check.{row_right, image_stands, is_image, fits}

module _ (a b c d e : Bool) where
  not_first : a ≡ false → false ≡ a && b && c && d && e
  not_first f = sym (rw f)

  not_second : b ≡ false → false ≡ a && b && c && d && e
  not_second f = sym (rw (f, and-false))

  not_third : c ≡ false → false ≡ a && b && c && d && e
  not_third f = sym (rw (f, and-false))

  not_fourth : d ≡ false → false ≡ a && b && c && d && e
  not_fourth f = sym (rw (f, and-false))

  only_fifth : a ≡ true → b ≡ true → c ≡ true → d ≡ true → e ≡ a && b && c && d && e
  only_fifth f g h i = sym (rw (f, g, h, i))

module _ (R : Register) (S : Summary) (n : ℕ) (n_is : n ≡ items R) where
  abbrev items_agree : Bool
  items_agree = eqb (length S.map) n

  abbrev marks_equal : Bool
  marks_equal = all (λ x. eqb (marks_of R x) (class_of S (class_at S x)).marks) n

  abbrev counts_equal : Bool
  counts_equal = all (λ k. eqb (class_of S k).count (cap S.class_cap (tally (λ x. eqb (class_at S x) k) n))) (length S.classes)

  abbrev links_equal : Bool
  links_equal = each (image_stands S) R.links && each (is_image R S) S.links

  abbrev rows_equal : Bool
  rows_equal = all (λ x. all (λ l. all (λ q. row_right R S x l q Outgoing && row_right R S x l q Incoming) S.groups) 16) n

  five : items_agree && marks_equal && counts_equal && links_equal && rows_equal ≡ fits R S
  unfolding fits
  five = rw n_is

  pub only_rows : length S.map ≡ n → marks_equal ≡ true → counts_equal ≡ true → links_equal ≡ true → rows_equal ≡ fits R S
  only_rows h e f g = only_fifth items_agree marks_equal counts_equal links_equal rows_equal (eq-eqb (length S.map) n h) e f g ∙ five
