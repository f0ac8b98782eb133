-- What a call's yes, no or refusal says in document 01's numbers and values. Leans on meaning's Answers and Refusals.
use Rattle.std.specs.Prelude.{Bool, Result, Ok, Err}
use Rattle.meaning.specs.Refusals.{number_of}
use Rattle.meaning.specs.declared.Refusal.{Refusal}
use Rattle.meaning.specs.Answers.{Returned, number, word}

abbrev pub told : Result Bool Refusal → Returned
told (Ok t) = word t
told (Err r) = number (number_of r)
