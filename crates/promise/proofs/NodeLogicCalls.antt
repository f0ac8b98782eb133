-- Asking a register says what the node logic of source 000 says, for every input. Leans on theory's `node_logic`, and on QuestionLaws:
-- a question that is read has no threshold above 8, and 8 is one above the greatest neighbour cap.
use mathlib.Core.Path.{◌≡◌, refl, ap, ◌∙◌}
use mathlib.Core.Bool.{cond}
use mathlib.Core.List.{List}
use mathlib.Core.Option.{Option, none, some}
use Prim.Native.Nat.{ℕ, ◌≤◌, ◌<◌}
use borrow.Author.Tests.{lt-ltb}
use lib.Dec.{ltb}
use Rattle.meaning.specs.Register.{items}
use Rattle.meaning.specs.Question.{Question, threshold, satisfies}
use Rattle.theory.proofs.NodeLogic.{node_logic_seven}
use Rattle.meaning.specs.RegisterFile.{register_in, fault}
use Rattle.meaning.specs.QuestionFile.{question}
use Rattle.meaning.specs.Answers.{Answer, refused, said, unless, ask_tree, ask_register}
use Rattle.promise.proofs.QuestionLaws.{question_thresholds}

-- Source 000, section 7.2, the satisfaction relation (it has no number): "a formula of the form a⟩^λ · φ holds in a node v if the -µ-bounded-
-- number of a-labelled edges (e) connecting it to some node v' .. in which φ holds is at least λ", and so for incoming edges. That is
-- `satisfies` (beside it stands the formula). Here are `ask_tree` and `ask_register` of Answers with it, at µ = 7, in place of `holds`
unfoldable pub logic_tree : List ℕ → ℕ → Option Question → Answer
logic_tree b x none = refused 5
logic_tree b x (some q) = let a = said (satisfies 7 (register_in b) q x) in cond (ltb x (items (register_in b))) a (refused 8)

unfoldable pub ask_logic : List ℕ → List ℕ → ℕ → Answer
ask_logic b q x = let a = logic_tree b x (question q) in unless (fault b) a

tree_logic : (b : List ℕ) (x : ℕ) (r : Option Question) → ((t : Question) → r ≡ some t → threshold t ≤ 8) → ask_tree b x r ≡ logic_tree b x r
unfolding ask_tree logic_tree
tree_logic b x none f = refl
tree_logic b x (some t) f = rw (node_logic_seven (register_in b) t (f t refl) x)

-- the two are the same: refusals, and yes or no
pub ask_register_logic : (b q : List ℕ) (x : ℕ) → ask_register b q x ≡ ask_logic b q x
unfolding ask_register ask_logic
ask_register_logic b q x = ap (unless (fault b)) (tree_logic b x (question q) (question_thresholds q))

-- so at an item of an accepted register, a question that is read is answered yes exactly when the node logic says so
pub asked_logic : (b q : List ℕ) (t : Question) (x : ℕ) → fault b ≡ 0 → question q ≡ some t → x < items (register_in b) →
    ask_register b q x ≡ said (satisfies 7 (register_in b) t x)
unfolding ask_logic logic_tree unless
asked_logic b q t x e read h = ask_register_logic b q x ∙ rw (e, read, lt-ltb x (items (register_in b)) h)
