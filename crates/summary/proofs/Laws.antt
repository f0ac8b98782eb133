-- The bytes of a summary are the bytes of its numbers, and five parts written one behind the other are one list. Leans on wire's Sets.
use mathlib.Core.Path.{◌≡◌, refl, sym, ap, ap₂, ◌∙◌}
use mathlib.Core.List.{List, [], ◌∷◌, ◌++◌, append-nil, append_assoc}
use Prim.Native.Nat.{ℕ, ◌+◌, ◌*◌}
use native.Mathlib.Omega.{arith}
use lib.ListN.{length, length-append}
use lib.Seq.{sets}
use Rattle.meaning.specs.Summary.{Class, Row, Summary}
use Rattle.meaning.specs.Register.{Link}
use Rattle.meaning.specs.Bytes.{put2, put4, pack}
use Rattle.meaning.specs.RegisterFile.{put_link}
use Rattle.meaning.specs.SummaryFile.{put_class, put_row, summary_head, summary_bytes, summary_size}
pub use Rattle.wire.proofs.Sets.{pack_append, size_numbers}
use Rattle.wire.proofs.Sets.{then}
use Rattle.summary.specs.Numbers.{class_fields, row_fields, edge_fields, class_numbers, row_numbers, edge_numbers, head_of, head_numbers, summary_numbers, numbers}

-- ---- packing

-- records that are numbers, and their bytes
pack_pack : {A : Type 0} (f put : A → List ℕ) → ((a : A) → pack put2 (f a) ≡ put a) → (s : List A) → pack put2 (pack f s) ≡ pack put s
unfolding pack
pack_pack f put e [] = refl
pack_pack f put e (a ∷ s) = pack_append put2 (f a) (pack f s) ∙ ap₂ (λ (x y : List ℕ). x ++ y) (e a) (pack_pack f put e s)

-- ---- a summary's bytes

class_bytes : (c : Class) → pack put2 (class_numbers c) ≡ put_class c
unfolding pack class_numbers put_class put4 put2
class_bytes c = refl

row_bytes : (r : Row) → pack put2 (row_numbers r) ≡ put_row r
unfolding pack row_numbers put_row put2
row_bytes r = refl

edge_bytes : (a : Link) → pack put2 (edge_numbers a) ≡ put_link a
unfolding pack edge_numbers put_link put2
edge_bytes a = refl

size_records : {A : Type 0} (f : A → List ℕ) (w : ℕ) → ((a : A) → length (f a) ≡ w) → (s : List A) → length (pack f s) ≡ w * length s
unfolding pack
size_records f w size [] = omega arith
size_records f w size (a ∷ s) = omega (arith, length-append (f a) (pack f s), size a, size_records f w size s)

head_bytes : (S : Summary) → pack put2 (head_numbers S) ≡ summary_head S
unfolding pack head_numbers head_of summary_head put2
head_bytes S = refl

pub numbers_bytes : (S : Summary) → pack put2 (summary_numbers S) ≡ summary_bytes S
unfolding summary_numbers summary_bytes
numbers_bytes S =
    pack_append put2 (head_numbers S) _
    ∙ ap₂ (λ (x y : List ℕ). x ++ y) (head_bytes S)
    (pack_append put2 (pack class_numbers S.classes) _
    ∙ ap₂ (λ (x y : List ℕ). x ++ y) (pack_pack class_numbers put_class class_bytes S.classes)
    (pack_append put2 (pack row_numbers S.rows) _
    ∙ ap₂ (λ (x y : List ℕ). x ++ y) (pack_pack row_numbers put_row row_bytes S.rows)
    (pack_append put2 (pack edge_numbers S.links) S.map
    ∙ ap₂ (λ (x y : List ℕ). x ++ y) (pack_pack edge_numbers put_link edge_bytes S.links) (sym (append-nil (pack put2 S.map))))))

-- five parts that hold the numbers of a summary are its bytes, and so long is the file
pub parts_bytes : (S : Summary) (head classes rows edges map : List ℕ) →
    head ≡ head_numbers S → classes ≡ pack class_numbers S.classes → rows ≡ pack row_numbers S.rows →
    edges ≡ pack edge_numbers S.links → map ≡ S.map → pack put2 (numbers head classes rows edges map) ≡ summary_bytes S
unfolding numbers summary_numbers
parts_bytes S head classes rows edges map h k o l m = rw (h, k, o, l, m) (numbers_bytes S)

classes_long : (S : Summary) → length (pack class_numbers S.classes) ≡ class_fields * length S.classes
unfolding class_numbers
classes_long S = size_records class_numbers class_fields (λ a. refl) S.classes

rows_long : (S : Summary) → length (pack row_numbers S.rows) ≡ row_fields * length S.rows
unfolding row_numbers
rows_long S = size_records row_numbers row_fields (λ a. refl) S.rows

edges_long : (S : Summary) → length (pack edge_numbers S.links) ≡ edge_fields * length S.links
unfolding edge_numbers
edges_long S = size_records edge_numbers edge_fields (λ a. refl) S.links

pub bytes_long : (S : Summary) → length (summary_bytes S) ≡ summary_size (length S.classes) (length S.rows) (length S.links) (length S.map)
unfolding summary_numbers head_numbers head_of
bytes_long S =
    let C = pack class_numbers S.classes in
    let O = pack row_numbers S.rows in
    let E = pack edge_numbers S.links in
    ap length (sym (numbers_bytes S))
    ∙ omega (
      arith,
      size_numbers (summary_numbers S),
      length-append C (O ++ (E ++ S.map)),
      length-append O (E ++ S.map),
      length-append E S.map,
      classes_long S,
      rows_long S,
      edges_long S,
    )

-- ---- five parts, one behind the other

pub parts_long : (h c r e m : List ℕ) →
    length (pack put2 (numbers h c r e m)) ≡ 2 * (length h + length c + length r + length e + length m)
unfolding numbers
parts_long h c r e m =
    omega (
      arith,
      size_numbers (h ++ (c ++ (r ++ (e ++ m)))),
      length-append h (c ++ (r ++ (e ++ m))),
      length-append c (r ++ (e ++ m)),
      length-append r (e ++ m),
      length-append e m,
    )

module _ (d h c r e m : List ℕ) (at₁ at₂ at₃ : ℕ) where
  then_part : (s t : List ℕ) {a b : List ℕ} (at : ℕ) → at ≡ 2 * length s → a ≡ sets d 0 (pack put2 s) → b ≡ sets a at (pack put2 t) → b ≡ sets d 0 (pack put2 (s ++ t))
  then_part s t at n f g = rw (pack_append put2 s t) (then d 0 (pack put2 s) (pack put2 t) at (omega (arith, size_numbers s)) f g)

  regroup : (((h ++ c) ++ r) ++ e) ++ m ≡ h ++ (c ++ (r ++ (e ++ m)))
  regroup = simp append_assoc

  pub written : {v w x y z : List ℕ} → length h ≡ 12 → at₁ ≡ 24 + 2 * length c → at₂ ≡ at₁ + 2 * length r → at₃ ≡ at₂ + 2 * length e →
      v ≡ sets d 0 (pack put2 h) → w ≡ sets v 24 (pack put2 c) → x ≡ sets w at₁ (pack put2 r) → y ≡ sets x at₂ (pack put2 e) → z ≡ sets y at₃ (pack put2 m) →
      z ≡ sets d 0 (pack put2 (numbers h c r e m))
  unfolding numbers
  written long e₁ e₂ e₃ ev ew ex ey ez =
      let f = then_part h c 24 (omega arith) ev ew in
      let g = then_part (h ++ c) r at₁ (omega (arith, length-append h c)) f ex in
      let k = then_part ((h ++ c) ++ r) e at₂ (omega (arith, length-append h c, length-append (h ++ c) r)) g ey in
      rw (← regroup) (then_part (((h ++ c) ++ r) ++ e) m at₃ (omega (arith, length-append h c, length-append (h ++ c) r, length-append ((h ++ c) ++ r) e)) k ez)
