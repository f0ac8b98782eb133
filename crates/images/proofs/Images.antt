-- "the class links are exactly the images of the links": exactly when the keys of the class links and the keys of the images are the same
-- numbers. Leans on lists for numbers in a list.
use mathlib.Core.Path.{◌≡◌, sym, ap, ap₂, ◌∙◌}
use mathlib.Core.Bool.{Bool, true, ◌&&◌}
use mathlib.Core.List.{List}
use Prim.Native.Nat.{ℕ, ◌+◌, ◌*◌, ◌≤◌, ◌<◌}
use native.Mathlib.Omega.{arith}
use lib.Dec.{eqb}
use lib.ListN.{get_or, length}
use Rattle.meaning.specs.Count.{tab, any, each, ascends, Every}
use Rattle.meaning.specs.Register.{Link, no_link, Register, items, LinkFine, Fine, link_of}
use Rattle.meaning.specs.Summary.{Summary, class_at, joins}
use Rattle.meaning.specs.Check.{image_stands, is_image}
use Rattle.meaning.specs.WellFormed.{link_key, link_in, well_formed}
use Rattle.theory.proofs.CountLaws.{bool_iff, any_at, each_every, each_tab, every_at, every_map, ascends_tab}
use Rattle.theory.proofs.ShapeLaws.{any_place, link_in_law, well_parts, number_parts}
use Rattle.theory.proofs.MatchLaws.{joins_parts, joins_make}
use Rattle.theory.proofs.OneLaws.{three, order_parts}
use Rattle.lists.proofs.Laws.{places, all_same, each_places, in_tab, of_tab}
use Rattle.seek.specs.Keys.{same_members}
use Rattle.images.specs.Keys.{key_by}

-- ---- keys in order

-- keys of members that ascend ascend as numbers
keys_ascend : {A : Type 0} (key : A → ℕ) (d : A) (s : List A) → ascends key s ≡ true → ascends (λ k. k) (tab (λ j. key (get_or s j d)) (length s)) ≡ true
keys_ascend key d s e =
    ascends_tab (λ k. k) (λ j. key (get_or s j d)) (length s)
    ∙ sym (ascends_tab key (λ j. get_or s j d) (length s))
    ∙ ap (ascends key) (places d s) ∙ e

-- ---- a key among the keys of links

-- the three parts of a key, as the accessors give them
pub key_made : (f : ℕ → ℕ) (a : Link) (x l y v : ℕ) → x ≡ f a.source → l ≡ a.label → y ≡ f a.target → v ≡ (x * 65536 + l) * 65536 + y → v ≡ key_by f a
unfolding key_by
key_made f a x l y v d e g h = h ∙ rw (d, e, g)

-- once f has given each end a class, the fields fit side by side
abbrev pub Fits : (ℕ → ℕ) → Link → Type 0
Fits f a = (a.label < 65536) × (f a.target < 65536)

module _ (f : ℕ → ℕ) (s : List Link) (fine : Every (Fits f) s) where
  pub key_joins : (k l k' : ℕ) → l < 65536 → k' < 65536 →
      any (eqb ((k * 65536 + l) * 65536 + k')) (tab (λ j. key_by f (get_or s j no_link)) (length s)) ≡ any (joins f k l k') s
  unfolding key_by
  key_joins k l k' u v =
      bool_iff _ _
      (λ e.
      let r = of_tab (λ j. key_by f (get_or s j no_link)) (length s) ((k * 65536 + l) * 65536 + k') e in
      let a = get_or s r.0 no_link in
      let p = every_at (Fits f) no_link s fine r.0 r.1 in
      let t = three (f a.source) a.label (f a.target) k l k' p.0 p.1 u v r.2 in
      any_at (joins f k l k') no_link s r.0 r.1 (joins_make f k l k' a t.0 t.1 t.2))
      (λ e.
      let r = any_place (joins f k l k') no_link s e in
      let a = get_or s r.0 no_link in
      let t = joins_parts f k l k' a r.2 in
      in_tab (λ j. key_by f (get_or s j no_link)) (length s) _ r.0 r.1 (rw (t.0, t.1, t.2)))

-- each key of the links t is among those of the links s
module _ (f g : ℕ → ℕ) (s t : List Link) (of-s : Every (Fits f) s) (of-t : Every (Fits g) t) where
  each_key : each (λ v. any (eqb v) (tab (λ j. key_by f (get_or s j no_link)) (length s))) (tab (λ j. key_by g (get_or t j no_link)) (length t))
      ≡ each (λ a. any (joins f (g a.source) a.label (g a.target)) s) t
  unfolding key_by
  each_key =
      each_tab _ (λ j. key_by g (get_or t j no_link)) (length t)
      ∙ all_same _ _ (length t) one
      ∙ sym (each_places (λ a. any (joins f (g a.source) a.label (g a.target)) s) no_link t)
    where
      one : (j : ℕ) → j < length t →
          any (eqb (key_by g (get_or t j no_link))) (tab (λ j. key_by f (get_or s j no_link)) (length s))
          ≡ any (joins f (g (get_or t j no_link).source) (get_or t j no_link).label (g (get_or t j no_link).target)) s
      one j u = let p = every_at (Fits g) no_link t of-t j u in key_joins f s of-s _ _ _ p.0 p.1

-- ---- the images of the links

module _ (S : Summary) where
  abbrev link_keys : List ℕ
  link_keys = tab (λ j. key_by (λ c. c) (get_or S.links j no_link)) (length S.links)

  pub links_ascend : well_formed S ≡ true → ascends (λ k. k) link_keys ≡ true
  unfolding key_by link_key
  links_ascend well = keys_ascend link_key no_link S.links (order_parts S (well_parts S well).3).1

  module _ (R : Register) where
    abbrev image_keys : List ℕ
    image_keys = tab (λ j. key_by (class_at S) (link_of R j)) (length R.links)

    pub images : Fine R → well_formed S ≡ true → length S.classes ≤ 1024 → ((x : ℕ) → x < items R → class_at S x < length S.classes) →
        same_members link_keys image_keys ≡ each (image_stands S) R.links && each (is_image R S) S.links
    unfolding same_members image_stands is_image link_of Fine
    images fine well few below =
        ap₂ (λ (a b : Bool). a && b)
        (each_key (λ c. c) (class_at S) S.links R.links edges links)
        (each_key (class_at S) (λ c. c) R.links S.links links edges)
      where
        edges : Every (Fits (λ c. c)) S.links
        edges =
            each_every (link_in (length S.classes)) S.links (number_parts S (well_parts S well).2).2
            (λ a e. let p = link_in_law (length S.classes) a e in (omega (arith, p.1), omega (arith, p.2)))

        links : Every (Fits (class_at S)) R.links
        links = every_map (LinkFine R) (Fits (class_at S)) R.links (λ a p. (omega (arith, p.1), omega (arith, below a.target p.2))) fine
