-- The keys of rows in order, and the keys that class links ask for as the code writes them. Leans on Match and on lists.
use mathlib.Core.Path.{◌≡◌, refl, sym, ap, subst, ◌∙◌}
use mathlib.Core.Bool.{Bool, true, false}
use mathlib.Core.List.{List}
use Prim.Native.Nat.{ℕ, ◌+◌, ◌*◌, ◌≤◌}
use native.Mathlib.Omega.{arith}
use lib.ListN.{length, get_or, take}
use Rattle.meaning.specs.Count.{ascends}
use Rattle.meaning.specs.Register.{near, far}
use Rattle.meaning.specs.declared.Direction.{Direction}
use Rattle.meaning.specs.declared.Direction.TheVariants.{Outgoing, Incoming}
use Rattle.meaning.specs.Summary.{Summary, no_row, class_of, row_of}
use Rattle.meaning.specs.WellFormed.{way, row_key, numbers, rows_match}
use Rattle.theory.proofs.CountLaws.{no, ascends_tab}
use Rattle.lists.specs.Writes.{Writes}
use Rattle.lists.proofs.Laws.{places, two_written}
use Rattle.seek.specs.Keys.{same_members}
use Rattle.reader.specs.Sized.{edge_of}
use Rattle.header.specs.Keyed.{row_keys, Keyed}
use Rattle.matching.specs.Keys.{key_for, asked_key, asked_keys}
use Rattle.matching.proofs.Match.{rows_matched}

-- ---- the keys of rows

module _ (S : Summary) where
  pub keys_rise : ascends row_key S.rows ≡ true → ascends (λ k. k) (row_keys S) ≡ true
  unfolding row_keys row_of
  keys_rise e =
      ascends_tab (λ k. k) (λ j. row_key (row_of S j)) (length S.rows)
      ∙ sym (ascends_tab row_key (λ j. get_or S.rows j no_row) (length S.rows))
      ∙ ap (ascends row_key) (places no_row S.rows) ∙ e

  pub keyed_no : (keys : List ℕ) → Keyed false S keys
  keyed_no keys = record { kept = λ e. no {t = false} e refl }

pub keyed_as : (S : Summary) (keys : List ℕ) {s : Bool} (t : Bool) → s ≡ true → Keyed s S keys → Keyed t S keys
keyed_as S keys t e k = record { kept = λ u. k.kept e }

pub keyed_rises : (S : Summary) (r : ℕ) (keys : List ℕ) → r ≡ length S.rows → Keyed true S keys → ascends row_key S.rows ≡ true → ascends (λ k. k) (take r keys) ≡ true
keyed_rises S r keys er k e = let a : take r keys ≡ row_keys S = ap (λ (n : ℕ). take n keys) er ∙ k.kept refl in rw a (keys_rise S e)

-- ---- rows and class links

-- the row that class link j asks for, from its three fields
module _ (S : Summary) (j x w y : ℕ) where
  pub asked_out : (d : Direction) → d ≡ Outgoing → x ≡ (edge_of S j).source → w ≡ (edge_of S j).label → y ≡ (edge_of S j).target →
      (x * 65536 + w) * 65536 + (class_of S y).group ≡ asked_key S d j
  unfolding asked_key key_for near far way
  asked_out d e f g h = rw (e, f, g, h)

  pub asked_in : (d : Direction) → d ≡ Incoming → x ≡ (edge_of S j).target → w ≡ 16 + (edge_of S j).label → y ≡ (edge_of S j).source →
      (x * 65536 + w) * 65536 + (class_of S y).group ≡ asked_key S d j
  unfolding asked_key key_for near far way
  asked_in d e f g h = rw (e, f, g, h)

-- the keys that the code holds against one another
pub match_by : (S : Summary) → numbers S ≡ true → S.groups ≤ 1024 → (r : ℕ) (keys asked asked' t : List ℕ) → r ≡ length S.rows →
    Keyed true S keys → (e : ℕ) → e ≡ length S.links →
    e + e ≤ length t → Writes t asked 0 (length S.links) (asked_key S Outgoing) → Writes asked asked' e (length S.links) (asked_key S Incoming) →
    same_members (take r keys) (take (2 * e) asked') ≡ rows_match S
unfolding asked_keys
match_by S fine few r keys asked asked' t er k e ee h w x =
    let a : take r keys ≡ row_keys S = ap (λ (n : ℕ). take n keys) er ∙ k.kept refl in
    let y : Writes asked asked' (length S.links) (length S.links) (asked_key S Incoming) =
    subst (λ (n : ℕ). Writes asked asked' n (length S.links) (asked_key S Incoming)) ee x in
    let b : take (2 * e) asked' ≡ asked_keys S =
    ap (λ (n : ℕ). take (2 * n) asked') ee
    ∙ two_written t asked asked' (length S.links) (asked_key S Outgoing) (asked_key S Incoming) (omega (arith, ee)) w y in
    rw (a, b) (rows_matched S fine (omega arith))
