-- A word that is not its row's decides.
use mathlib.Core.Path.{refl, sym}
use Rattle.theory.proofs.CountLaws.{all_no}
use Rattle.lists.proofs.Laws.{told_no}
use Rattle.rowwise.proofs.words_equal.Goals as goal

pub returns-then-words-from : goal.returns-then-words-from
returns-then-words-from c =
    sym (all_no _ c.args.count c.loop-j.j c.loop-j-test.true (told_no _ _ _ _ refl c.word.ensures c.if-words-from.true))
