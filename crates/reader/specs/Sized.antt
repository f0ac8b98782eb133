-- The class link of a summary at a place among its class links. Leans on meaning's Summary.
use Rattle.std.specs.Prelude.{ℕ, get_or}
use Rattle.meaning.specs.Register.{Link, no_link}
use Rattle.meaning.specs.Summary.{Summary}

-- class link number j
abbrev pub edge_of : Summary → ℕ → Link
edge_of S j = get_or S.links j no_link
