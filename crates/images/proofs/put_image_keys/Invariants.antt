-- The keys of the images of the links passed.
use Rattle.std.proofs.Common.{◌≡◌, ℕ, ◌<◌, get_or}
use Rattle.meaning.specs.Register.{link_of}
use Rattle.meaning.specs.Summary.{class_at}
use Rattle.meaning.specs.RegisterFile.{register_in}
use Rattle.meaning.specs.SummaryFile.{summary_in}
use Rattle.images.specs.Keys.{key_by}
use Rattle.images.proofs.put_image_keys.Given as goal

abbrev pub invariant-loop-j : goal.invariant-loop-j
invariant-loop-j l = (i : ℕ) → i < l.j → get_or l.keys i 0 ≡ key_by (class_at (summary_in l.p.summary.bytes.now)) (link_of (register_in l.p.register.bytes.now) i)
