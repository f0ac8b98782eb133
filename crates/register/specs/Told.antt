-- What judging says in document 01's terms. Leans on meaning's RegisterFile.
use Rattle.std.specs.Prelude.{Result, Ok, Err}
use Rattle.meaning.specs.declared.Refusal.{Refusal}
use Rattle.meaning.specs.Refusals.{number_of}
use Rattle.meaning.specs.RegisterFile.{Verdict, accepted, refused}
use Rattle.register.specs.declared.Register.{Register}
pub use Rattle.register.specs.Accepted.{OfItems, OfRegister}

-- a judgement: the counts of an accepted register, or the number of the refusal
abbrev pub told : Result Register Refusal → Verdict
told (Ok r) = accepted r.items r.links
told (Err e) = refused (number_of e)
