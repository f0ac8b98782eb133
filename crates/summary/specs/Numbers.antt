-- A summary file as a list of two-byte numbers: "Class: marks (four), group, item count"; "Row: class, direction times 16 plus label,
-- group, neighbour count"; "Class link: source class, label, target class"; "Map: the class of each item." Leans on meaning.
use Rattle.std.specs.Prelude.{ℕ, ◌/◌, ◌%◌, List, [], ◌∷◌, ◌++◌, length}
use Rattle.meaning.specs.Register.{Link}
use Rattle.meaning.specs.Summary.{Class, Row, Summary}
use Rattle.meaning.specs.WellFormed.{way}
use Rattle.meaning.specs.Bytes.{pack}
use Rattle.meaning.specs.SummaryFile.{rows_offset, edges_offset, map_offset}

-- how many numbers a class record has, half of meaning's class_size; and a row and a class link
abbrev pub class_fields : ℕ
class_fields = 4

abbrev pub row_fields : ℕ
row_fields = 4

abbrev pub edge_fields : ℕ
edge_fields = 3

unfoldable pub class_numbers : Class → List ℕ
class_numbers c = c.marks / 65536 ∷ c.marks % 65536 ∷ c.group ∷ c.count ∷ []

unfoldable pub row_numbers : Row → List ℕ
row_numbers r = r.class ∷ way r.direction r.label ∷ r.group ∷ r.count ∷ []

unfoldable pub edge_numbers : Link → List ℕ
edge_numbers a = a.source ∷ a.label ∷ a.target ∷ []

-- "Header of 24 bytes: i, µ, ν, class count c, group count g, row count r, class-link count e, item count n, then four offsets"
unfoldable pub head_of : ℕ → ℕ → ℕ → ℕ → ℕ → ℕ → ℕ → ℕ → List ℕ
head_of i µ ν c g r e n = i ∷ µ ∷ ν ∷ c ∷ g ∷ r ∷ e ∷ n ∷ 24 ∷ rows_offset c ∷ edges_offset c r ∷ map_offset c r e ∷ []

unfoldable pub head_numbers : Summary → List ℕ
head_numbers S =
    head_of S.level S.near_cap S.class_cap (length S.classes) S.groups (length S.rows) (length S.links) (length S.map)

-- the numbers of a summary; `numbers_bytes` says that the bytes of these are the summary's
unfoldable pub summary_numbers : Summary → List ℕ
summary_numbers S = head_numbers S ++ (pack class_numbers S.classes ++ (pack row_numbers S.rows ++ (pack edge_numbers S.links ++ S.map)))

-- five parts of numbers, one behind the other
unfoldable pub numbers : List ℕ → List ℕ → List ℕ → List ℕ → List ℕ → List ℕ
numbers head classes rows edges map = head ++ (classes ++ (rows ++ (edges ++ map)))
