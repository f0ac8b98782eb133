-- Which items of a summary are on the list, where each class has its answer. Leans on meaning's Summary and SummaryFile.
use Rattle.std.specs.Prelude.{Bool, false, List, ℕ, get_or, length}
use Rattle.meaning.specs.Count.{those}
use Rattle.meaning.specs.Summary.{class_at}
use Rattle.meaning.specs.SummaryFile.{summary_in}

abbrev pub passes : (s : List ℕ) (answers : List Bool) → ℕ → Bool
passes s answers x = get_or answers (class_at (summary_in s) x) false

abbrev pub passing : (s : List ℕ) (answers : List Bool) → List ℕ
passing s answers = those (passes s answers) (length (summary_in s).map)
