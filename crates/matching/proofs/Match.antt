-- Rows and class links match exactly when the keys of the rows and the keys that the class links ask for are the same numbers.
use mathlib.Core.Path.{◌≡◌, refl, sym, subst, ◌∙◌}
use mathlib.Core.Bool
use mathlib.Core.Bool.{Bool, true, false, ◌&&◌, ◌||◌}
use mathlib.Core.Logic.{⊎_elim}
use Prim.Native.Nat.{ℕ, ◌≤◌, ◌<◌}
use native.Mathlib.Omega.{arith}
use borrow.Author.Tests.{eqb-true, eq-eqb, ltb-true}
use lib.Dec.{eqb, ltb}
use lib.ListN.{get_or, length}
use Rattle.meaning.specs.Count.{tab, any, each}
use Rattle.meaning.specs.Register.{Link, no_link, near, far, leads, same_way}
use Rattle.meaning.specs.declared.Direction.{Direction}
use Rattle.meaning.specs.declared.Direction.TheVariants.{Outgoing, Incoming}
use Rattle.meaning.specs.Summary.{Row, Summary, no_class, no_row, class_of, row_of, row_for}
use Rattle.meaning.specs.WellFormed.{way, row_key, link_in, class_in, row_in, has_row, has_link, numbers, rows_match}
use Rattle.theory.proofs.CountLaws.{and_inv, and_yes, bool_iff, or_inv, all_yes, all_at, any_at, any_append, each_append, each_tab, each_every, every_at}
use Rattle.theory.proofs.ShapeLaws.{link_in_law, number_parts, any_place, class_group, same_direction, own_direction}
use Rattle.theory.proofs.MatchLaws.{leads_parts, leads_make}
use Rattle.theory.proofs.OneLaws.{three, way_tells, way_small}
use Rattle.lists.proofs.Laws.{in_tab, of_tab}
use Rattle.seek.specs.Keys.{same_members}
use Rattle.header.specs.Keyed.{row_keys}
use Rattle.matching.specs.Keys.{key_for, asked_key, asked_keys}

-- ---- fields side by side

pub keys_apart : (k x : ℕ) (d e : Direction) (l m q z : ℕ) → l < 16 → m < 16 → q < 65536 → z < 65536 → key_for k d l q ≡ key_for x e m z → (k ≡ x) × (d ≡ e) × (l ≡ m) × (q ≡ z)
unfolding key_for
keys_apart k x d e l m q z f g h i u =
    let s = three k (way d l) q x (way e m) z (way_small d l f) h (way_small e m g) i u in
    let w = way_tells d e l m f g s.1 in
    (s.0, w.0, w.1, s.2)

-- ---- what stands at a place of a summary whose numbers are in range

row_facts : (S : Summary) (r : Row) → row_in S r ≡ true → (r.class < length S.classes) × (r.label < 16) × (r.group < S.groups)
unfolding row_in
row_facts S r e =
    let f = and_inv (ltb r.class (length S.classes) && ltb r.label 16 && ltb r.group S.groups) _ e in
    let g = and_inv (ltb r.class (length S.classes) && ltb r.label 16) (ltb r.group S.groups) f.0 in
    let h = and_inv (ltb r.class (length S.classes)) (ltb r.label 16) g.0 in
    (ltb-true _ _ h.0, ltb-true _ _ h.1, ltb-true _ _ g.1)

near_far : (d : Direction) (a : Link) (c : ℕ) → (a.source < c) × (a.label < 16) × (a.target < c) → (near d a < c) × (far d a < c)
unfolding near far
near_far Outgoing a c h = (h.0, h.2)
near_far Incoming a c h = (h.2, h.0)

-- a row's key, and a row found by what is asked of it
row_of_key : (S : Summary) (j : ℕ) → row_key (row_of S j) ≡ key_for (row_of S j).class (row_of S j).direction (row_of S j).label (row_of S j).group
unfolding row_key key_for
row_of_key S j = refl

row_for_parts : (k : ℕ) (d : Direction) (l q : ℕ) (r : Row) → row_for k d l r && eqb r.group q ≡ true → (r.class ≡ k) × (r.direction ≡ d) × (r.label ≡ l) × (r.group ≡ q)
unfolding row_for
row_for_parts k d l q r e =
    let f = and_inv (eqb r.class k && same_way r.direction d && eqb r.label l) (eqb r.group q) e in
    let g = and_inv (eqb r.class k && same_way r.direction d) (eqb r.label l) f.0 in
    let h = and_inv (eqb r.class k) (same_way r.direction d) g.0 in
    (eqb-true _ _ h.0, same_direction _ _ h.1, eqb-true _ _ g.1, eqb-true _ _ f.1)

row_for_make : (k : ℕ) (d : Direction) (l q : ℕ) (r : Row) → r.class ≡ k → r.direction ≡ d → r.label ≡ l → r.group ≡ q → row_for k d l r && eqb r.group q ≡ true
unfolding row_for
row_for_make k d l q r e f g h = and_yes (and_yes (and_yes (eq-eqb _ _ e) (rw f (own_direction d))) (eq-eqb _ _ g)) (eq-eqb _ _ h)

module _ (S : Summary) (fine : numbers S ≡ true) where
  abbrev link : ℕ → Link
  link j = get_or S.links j no_link

  pub row_at : (j : ℕ) → j < length S.rows → ((row_of S j).class < length S.classes) × ((row_of S j).label < 16) × ((row_of S j).group < S.groups)
  unfolding row_of
  row_at j h =
      every_at (λ r. (r.class < length S.classes) × (r.label < 16) × (r.group < S.groups)) no_row S.rows
      (each_every (row_in S) S.rows (number_parts S fine).1 (row_facts S)) j h

  pub link_at_law : (j : ℕ) → j < length S.links → ((link j).source < length S.classes) × ((link j).label < 16) × ((link j).target < length S.classes)
  link_at_law j h =
      every_at (λ a. (a.source < length S.classes) × (a.label < 16) × (a.target < length S.classes)) no_link S.links
      (each_every (link_in (length S.classes)) S.links (number_parts S fine).2 (link_in_law (length S.classes))) j h

  pub group_at : (k : ℕ) → k < length S.classes → (class_of S k).group < S.groups
  unfolding class_of
  group_at k h = every_at (λ c. c.group < S.groups) no_class S.classes (each_every (class_in S) S.classes (number_parts S fine).0 (class_group S)) k h

  module _ (few_groups : S.groups ≤ 65536) where
    abbrev Has : ℕ → Type 0
    Has v = any (eqb v) (row_keys S) ≡ true

    abbrev Asks : ℕ → Type 0
    Asks v = any (eqb v) (asked_keys S) ≡ true

    -- a row's key is there; what is there is a row's
    has_row_law : (j : ℕ) → j < length S.rows → Has (row_key (row_of S j))
    unfolding row_keys
    has_row_law j h = in_tab (λ j. row_key (row_of S j)) (length S.rows) _ j h refl

    row_had : (v : ℕ) → Has v → (j : ℕ) × (j < length S.rows) × (row_key (row_of S j) ≡ v)
    unfolding row_keys
    row_had v e = of_tab (λ j. row_key (row_of S j)) (length S.rows) v e

    asks_link : (d : Direction) (j : ℕ) → j < length S.links → Asks (asked_key S d j)
    unfolding asked_keys
    asks_link Outgoing j h =
        any_append (eqb (asked_key S Outgoing j)) (tab (asked_key S Outgoing) (length S.links)) _
        ∙ rw (in_tab (asked_key S Outgoing) (length S.links) _ j h refl)
    asks_link Incoming j h =
        any_append (eqb (asked_key S Incoming j)) (tab (asked_key S Outgoing) (length S.links)) _
        ∙ rw (in_tab (asked_key S Incoming) (length S.links) _ j h refl)
        (or_true (any (eqb (asked_key S Incoming j)) (tab (asked_key S Outgoing) (length S.links))))
      where
        or_true : (t : Bool) → t || true ≡ true
        or_true true = refl
        or_true false = refl

    link_asked : (v : ℕ) → Asks v → (d : Direction) × (j : ℕ) × (j < length S.links) × (asked_key S d j ≡ v)
    unfolding asked_keys
    link_asked v e =
        let n = length S.links in
        let f : any (eqb v) (tab (asked_key S Outgoing) n) || any (eqb v) (tab (asked_key S Incoming) n) ≡ true = sym (any_append (eqb v) (tab (asked_key S Outgoing) n) _) ∙ e in
        ⊎_elim (λ u. let r = of_tab (asked_key S Outgoing) n v u in (Outgoing, r.0, r.1, r.2))
        (λ u. let r = of_tab (asked_key S Incoming) n v u in (Incoming, r.0, r.1, r.2)) (or_inv _ _ f)

    -- a row stands for a class, direction, label and group where its key is there
    pub row_stands : (k : ℕ) (d : Direction) (l q : ℕ) → has_row S k d l q ≡ true → any (eqb (key_for k d l q)) (row_keys S) ≡ true
    unfolding has_row row_of
    row_stands k d l q e =
        let r = any_place (λ r. row_for k d l r && eqb r.group q) no_row S.rows e in
        let p = row_for_parts k d l q (row_of S r.0) r.2 in
        subst (λ (v : ℕ). Has v) (row_of_key S r.0 ∙ rw (p.0, p.1, p.2, p.3)) (has_row_law r.0 r.1)

    stands_row : (k : ℕ) (d : Direction) (l q : ℕ) → l < 16 → q < S.groups → Has (key_for k d l q) → has_row S k d l q ≡ true
    unfolding has_row row_of
    stands_row k d l q u v e =
        let r = row_had (key_for k d l q) e in
        let t = row_of S r.0 in
        let f = row_at r.0 r.1 in
        let p = keys_apart t.class k t.direction d t.label l t.group q f.1 u (omega (arith, f.2)) (omega arith) (sym (row_of_key S r.0) ∙ r.2) in
        any_at (λ r. row_for k d l r && eqb r.group q) no_row S.rows r.0 r.1 (row_for_make k d l q t p.0 p.1 p.2 p.3)

    -- and a class link joins them where it asks for that key
    link_asks : (k : ℕ) (d : Direction) (l q : ℕ) → has_link S k d l q ≡ true → Asks (key_for k d l q)
    unfolding has_link asked_key
    link_asks k d l q e =
        let r = any_place (leads d l (λ c. eqb (class_of S c).group q) k) no_link S.links e in
        let p = leads_parts d l (λ c. eqb (class_of S c).group q) k (link r.0) r.2 in
        subst (λ (v : ℕ). Asks v) (rw (p.0, p.1, eqb-true _ q p.2)) (asks_link d r.0 r.1)

    asks_has : (k : ℕ) (d : Direction) (l q : ℕ) → l < 16 → q < S.groups → Asks (key_for k d l q) → has_link S k d l q ≡ true
    unfolding has_link asked_key
    asks_has k d l q u v e =
        let r = link_asked (key_for k d l q) e in
        let a = link r.1 in
        let f = link_at_law r.1 r.2 in
        let n = near_far r.0 a (length S.classes) f in
        let g = group_at (far r.0 a) n.1 in
        let p = keys_apart (near r.0 a) k r.0 d a.label l (class_of S (far r.0 a)).group q f.1 u (omega (arith, g)) (omega arith) r.3 in
        any_at (leads d l (λ c. eqb (class_of S c).group q) k) no_link S.links r.1 r.2
        (subst (λ (e : Direction). leads e l (λ c. eqb (class_of S c).group q) k a ≡ true) p.1
        (leads_make r.0 l (λ c. eqb (class_of S c).group q) k a p.0 p.2 (eq-eqb _ q p.3)))

    -- every key that is asked for is there, and every key that is there is asked for
    members : same_members (row_keys S) (asked_keys S) ≡ true →
        ((d : Direction) (j : ℕ) → j < length S.links → Has (asked_key S d j)) × ((j : ℕ) → j < length S.rows → Asks (row_key (row_of S j)))
    unfolding same_members asked_keys row_keys
    members e =
        let f = and_inv (each (λ a. any (eqb a) (row_keys S)) (asked_keys S)) (each (λ b. any (eqb b) (asked_keys S)) (row_keys S)) e in
        (asked f.0, had f.1)
      where
        asked : each (λ a. any (eqb a) (row_keys S)) (asked_keys S) ≡ true → (d : Direction) (j : ℕ) → j < length S.links → Has (asked_key S d j)
        asked e d j h =
            let n = length S.links in
            let f = and_inv _ _ (sym (each_append (λ a. any (eqb a) (row_keys S)) (tab (asked_key S Outgoing) n) (tab (asked_key S Incoming) n)) ∙ e) in
            go f d
          where
            go : (each (λ a. any (eqb a) (row_keys S)) (tab (asked_key S Outgoing) (length S.links)) ≡ true) × (each (λ a. any (eqb a) (row_keys S)) (tab (asked_key S Incoming) (length S.links)) ≡ true) →
                (d : Direction) → Has (asked_key S d j)
            go f Outgoing = all_at _ (length S.links) j h (sym (each_tab _ (asked_key S Outgoing) (length S.links)) ∙ f.0)
            go f Incoming = all_at _ (length S.links) j h (sym (each_tab _ (asked_key S Incoming) (length S.links)) ∙ f.1)

        had : each (λ b. any (eqb b) (asked_keys S)) (row_keys S) ≡ true → (j : ℕ) → j < length S.rows → Asks (row_key (row_of S j))
        had e j h = all_at _ (length S.rows) j h (sym (each_tab (λ b. any (eqb b) (asked_keys S)) (λ j. row_key (row_of S j)) (length S.rows)) ∙ e)

    are_members : ((d : Direction) (j : ℕ) → j < length S.links → Has (asked_key S d j)) →
        ((j : ℕ) → j < length S.rows → Asks (row_key (row_of S j))) → same_members (row_keys S) (asked_keys S) ≡ true
    unfolding same_members asked_keys row_keys
    are_members f g = and_yes asked had
      where
        asked : each (λ a. any (eqb a) (row_keys S)) (asked_keys S) ≡ true
        asked =
            let n = length S.links in
            each_append (λ a. any (eqb a) (row_keys S)) (tab (asked_key S Outgoing) n) (tab (asked_key S Incoming) n)
            ∙ and_yes (each_tab _ (asked_key S Outgoing) n ∙ all_yes _ n (f Outgoing)) (each_tab _ (asked_key S Incoming) n ∙ all_yes _ n (f Incoming))

        had : each (λ b. any (eqb b) (asked_keys S)) (row_keys S) ≡ true
        had = each_tab (λ b. any (eqb b) (asked_keys S)) (λ j. row_key (row_of S j)) (length S.rows) ∙ all_yes _ (length S.rows) g

    -- what "match" says of one class, direction, label and group
    matched : rows_match S ≡ true → (k : ℕ) (d : Direction) (l q : ℕ) → k < length S.classes → l < 16 → q < S.groups → has_row S k d l q ≡ has_link S k d l q
    unfolding rows_match
    matched e k d l q u v w =
        let f = all_at _ S.groups q w (all_at _ 16 l v (all_at _ (length S.classes) k u e)) in
        let g = and_inv (Bool.beq (has_row S k Outgoing l q) (has_link S k Outgoing l q)) (Bool.beq (has_row S k Incoming l q) (has_link S k Incoming l q)) f in
        go d g
      where
        same : (s t : Bool) → Bool.beq s t ≡ true → s ≡ t
        same true true e = refl
        same true false e = sym e
        same false true e = e
        same false false e = refl

        go : (d : Direction) →
            (Bool.beq (has_row S k Outgoing l q) (has_link S k Outgoing l q) ≡ true) × (Bool.beq (has_row S k Incoming l q) (has_link S k Incoming l q) ≡ true) →
            has_row S k d l q ≡ has_link S k d l q
        go Outgoing g = same _ _ g.0
        go Incoming g = same _ _ g.1

    are_matched : ((k : ℕ) (d : Direction) (l q : ℕ) → l < 16 → q < S.groups → has_row S k d l q ≡ has_link S k d l q) → rows_match S ≡ true
    unfolding rows_match
    are_matched h =
        all_yes _ (length S.classes) (λ k u. all_yes _ 16 (λ l v. all_yes _ S.groups (λ q w. and_yes (beq _ _ (h k Outgoing l q v w)) (beq _ _ (h k Incoming l q v w)))))
      where
        beq : (s t : Bool) → s ≡ t → Bool.beq s t ≡ true
        beq true t e = rw (← e)
        beq false t e = rw (← e)

    pub rows_matched : same_members (row_keys S) (asked_keys S) ≡ rows_match S
    unfolding asked_key
    rows_matched = bool_iff _ _ there back
      where
        there : same_members (row_keys S) (asked_keys S) ≡ true → rows_match S ≡ true
        there e =
            let m = members e in
            are_matched (λ k d l q u v. bool_iff _ _
            (λ f.
            let r = row_had (key_for k d l q) (row_stands k d l q f) in
            asks_has k d l q u v (subst (λ (v : ℕ). Asks v) r.2 (m.1 r.0 r.1)))
            (λ f.
            let r = link_asked (key_for k d l q) (link_asks k d l q f) in
            stands_row k d l q u v (subst (λ (v : ℕ). Has v) r.3 (m.0 r.0 r.1 r.2))))

        back : rows_match S ≡ true → same_members (row_keys S) (asked_keys S) ≡ true
        back e = are_members asked had
          where
            asked : (d : Direction) (j : ℕ) → j < length S.links → Has (asked_key S d j)
            asked d j h =
                let a = link j in
                let f = link_at_law j h in
                let n = near_far d a (length S.classes) f in
                let g = group_at (far d a) n.1 in
                row_stands (near d a) d a.label _
                (matched e (near d a) d a.label _ n.0 f.1 g ∙ asks_has (near d a) d a.label _ f.1 g (asks_link d j h))

            had : (j : ℕ) → j < length S.rows → Asks (row_key (row_of S j))
            had j h =
                let r = row_of S j in
                let f = row_at j h in
                subst (λ (v : ℕ). Asks v) (sym (row_of_key S j))
                (link_asks r.class r.direction r.label r.group
                (sym (matched e r.class r.direction r.label r.group f.0 f.1 f.2)
                ∙ stands_row r.class r.direction r.label r.group f.1 f.2 (subst (λ (v : ℕ). Has v) (row_of_key S j) (has_row_law j h))))
