-- What is read of four bytes, in document 01's terms: an entry of a question's bytes. Leans on meaning's QuestionFile for the table.
use Rattle.std.specs.Prelude.{Option as Read, Some, None, cond, ◌&&◌, List, ℕ, ◌+◌, ◌*◌, eqb, leb, length, get_or}
use Rattle.std.proofs.Math.Option.{Option, none, some}
use Rattle.meaning.specs.declared.Kind.{Kind}
use Rattle.meaning.specs.QuestionFile.{kind}

-- a reading: the kind of a well-formed entry
abbrev pub kind_of : Read Kind → Option Kind
kind_of (Some k) = some k
kind_of None = none

-- "entries of four bytes .. Bytes three and four are 0": entry number i, and none where the bytes end before it does
unfoldable pub entry_at : List ℕ → ℕ → Option Kind
entry_at q i =
    cond (leb (4 * i + 4) (length q))
    (cond (eqb (get_or q (4 * i + 2) 0) 0 && eqb (get_or q (4 * i + 3) 0) 0) (kind (get_or q (4 * i) 0) (get_or q (4 * i + 1) 0)) none)
    none
