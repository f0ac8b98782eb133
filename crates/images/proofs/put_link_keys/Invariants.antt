-- The keys of the class links passed.
use Rattle.std.proofs.Common.{◌≡◌, ℕ, ◌<◌, get_or}
use Rattle.meaning.specs.SummaryFile.{summary_in}
use Rattle.reader.specs.Sized.{edge_of}
use Rattle.images.specs.Keys.{key_by}
use Rattle.images.proofs.put_link_keys.Given as goal

abbrev pub invariant-loop-j : goal.invariant-loop-j
invariant-loop-j l = (i : ℕ) → i < l.j → get_or l.keys i 0 ≡ key_by (λ c. c) (edge_of (summary_in l.s.bytes.now) i)
