-- What a call on a summary has once summary and question are judged. Leans on meaning's Answers and QuestionFile.
use Rattle.std.specs.Prelude.{◌≡◌, false, List, ℕ}
use Rattle.std.proofs.Math.Option.{some}
use Rattle.meaning.specs.Question.{Question, depth}
use Rattle.meaning.specs.QuestionFile.{question}
use Rattle.meaning.specs.SummaryFile.{summary_in}
use Rattle.meaning.specs.Answers.{beyond}
use Rattle.question.specs.declared.Needs.{Needs}

-- a well-formed question that has that depth, and that the summary can answer
pub record Reached (s q : List ℕ) (n : Needs) : Type 0 where
  pub tree : Question
  pub reads : question q ≡ some tree
  pub depth_is : depth tree ≡ n.depth
  pub within : beyond (summary_in s) tree ≡ false
