-- Four calls; `lows`, `numbered` and `numbers` turn lowest items into numbers.
use mathlib.Core.Path.{◌≡◌, ◌∙◌}
use lib.Seq.{length-take-le}
use native.Mathlib.Omega.{arith}
use lib.ListN.{length, get_or}
use Rattle.marked.specs.Lowest.{same_marks}
use Rattle.marked.proofs.Numbered.{lows, numbered, numbers}
use Rattle.marked.proofs.Laws.{marks_equivalence, keys_listed}
use Rattle.marked.proofs.number_by_marks.Goals as goal

pub find_marked-requires-clause-listed : goal.find_marked-requires-clause-listed
find_marked-requires-clause-listed c =
    let ms = c.args.marks.now in
    keys_listed (λ x. get_or ms x 0) (length ms) _ _ c.put_marks.ensures c.sort.ensures

pub number_firsts-requires-clause-lowest : goal.number_firsts-requires-clause-lowest
number_firsts-requires-clause-lowest c =
    let ms = c.args.marks.now in
    let fs = c.find_marked.new.firsts in
    let n : length fs ≡ length ms = c.find_marked.auto.firsts ∙ length-take-le (length ms) _ (omega arith) in
    rw n (lows (same_marks ms) (marks_equivalence ms) fs (length ms) c.find_marked.ensures)

pub returns : goal.returns
returns c =
    let ms = c.args.marks.now in
    let like = same_marks ms in
    let eq = marks_equivalence ms in
    let fs = c.find_marked.new.firsts in
    let e = c.find_marked.ensures in
    let n : length fs ≡ length ms = c.find_marked.auto.firsts ∙ length-take-le (length ms) _ (omega arith) in
    let r = rw n at c.number_firsts.ensures in
    (r.0 ∙ numbered like eq fs (length ms) e, r.1 ∙ numbers like eq fs (length ms) e)
