-- When links are in order, as number 3 of the refusals asks of a register and number 6 of a summary. Leans on meaning's WellFormed.
use Rattle.std.specs.Prelude.{ℕ, ◌/◌, ◌%◌, Bool, ◌&&◌, List, ltb}
use Rattle.meaning.specs.Count.{each, ascends}
use Rattle.meaning.specs.Register.{Link}
use Rattle.meaning.specs.WellFormed.{link_in, link_key}

-- not "a link's item ≥ n, its label > 15, or order not strict", where the ends are numbers below n
unfoldable pub in_order : ℕ → List Link → Bool
in_order n L = each (link_in n) L && ascends link_key L

-- label and target, one number, are below 16 and below n
unfoldable pub rest_in : ℕ → ℕ → Bool
rest_in n rest = ltb (rest / 65536) 16 && ltb (rest % 65536) n
