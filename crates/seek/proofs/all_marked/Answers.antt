-- Every mark passed is set.
use Rattle.std.proofs.Common.{sym, false, length, get_or, arith}
use Rattle.theory.proofs.CountLaws.{all_yes, all_no}
use Rattle.seek.proofs.all_marked.Goals as goal

pub returns-then-not-set : goal.returns-then-not-set
returns-then-not-set c =
    let marked = c.args.marked.now in
    sym (all_no (λ k. get_or marked k false) (length marked) c.loop-set.set-index (omega arith) c.if-not-set.true)

pub returns : goal.returns
returns c =
    let marked = c.args.marked.now in
    sym (all_yes (λ k. get_or marked k false) (length marked) (λ k h. c.loop-set.invariant k (omega arith)))
