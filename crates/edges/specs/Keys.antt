-- The class link that a link of a register gives, as one number: what is sorted to find the class links of a summary, and what is
-- read off the numbers in order. Leans on Condense for the classes of items.
use Rattle.std.specs.Prelude.{ℕ, suc, ◌+◌, ◌*◌, ◌/◌, ◌%◌, cond, List, [], ◌∷◌, leb}
use Rattle.meaning.specs.Count.{join}
use Rattle.meaning.specs.Register.{Link, Register}
use Rattle.meaning.specs.Level.{class_count}
use Rattle.meaning.specs.Condense.{by, links_from}

-- the class links of a summary whose items have these classes, as `summary_by` has them
abbrev pub class_links : Register → List ℕ → List Link
class_links R cs = join (links_from R cs) (class_count cs)

-- "source class, label, target class": labels are below 16, classes below 1,024, so keys are in the order of these fields
unfoldable pub key_of : List ℕ → Link → ℕ
key_of cs a = (by cs a.source * 16 + a.label) * 1024 + by cs a.target

-- the class link of a key
unfoldable pub unkeyed : ℕ → Link
unkeyed v = record { source = v / 16384; label = v / 1024 % 16; target = v % 1024 }

-- the class links of keys in order, each once: a key counts when it is at least `least`, one past the key that counted last
unfoldable pub distinct : ℕ → List ℕ → List Link
distinct least [] = []
distinct least (v ∷ s) = cond (leb least v) (unkeyed v ∷ distinct (suc v) s) (distinct least s)
