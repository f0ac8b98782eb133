-- The keys by which rows and class links are held against one another: "a row stands for a class, direction, label and group exactly when
-- a class link joins that class to some class of the group that way". Leans on meaning's WellFormed.
use Rattle.std.specs.Prelude.{ℕ, ◌+◌, ◌*◌, List, ◌++◌, get_or, length}
use Rattle.meaning.specs.Count.{tab}
use Rattle.meaning.specs.Register.{no_link, near, far}
use Rattle.meaning.specs.declared.Direction.{Direction}
use Rattle.meaning.specs.declared.Direction.TheVariants.{Outgoing, Incoming}
use Rattle.meaning.specs.Summary.{Summary, class_of}
use Rattle.meaning.specs.WellFormed.{way}

-- class, direction with label, and group side by side, as in `row_key`
unfoldable pub key_for : ℕ → Direction → ℕ → ℕ → ℕ
key_for k d l q = (k * 65536 + way d l) * 65536 + q

-- the row that class link j asks for, seen that way
unfoldable pub asked_key : Summary → Direction → ℕ → ℕ
asked_key S d j = let a = get_or S.links j no_link in key_for (near d a) d a.label (class_of S (far d a)).group

unfoldable pub asked_keys : Summary → List ℕ
asked_keys S = tab (asked_key S Outgoing) (length S.links) ++ tab (asked_key S Incoming) (length S.links)
