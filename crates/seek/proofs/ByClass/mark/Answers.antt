-- The place found holds the number, or no key does.
use Rattle.std.proofs.Common.{◌<◌, length, arith}
use Rattle.seek.proofs.Laws.{marks_kept, marks_set}
use Rattle.seek.proofs.ByClass.mark.Goals as goal

pub returns-then-at-keys : goal.returns-then-at-keys
returns-then-at-keys c =
    let keys = c.args.self.now.ascending in
    let f = c.find-at in
    marks_kept keys.keys.now c.args.number f.result c.args.marked.now keys.ascend f.ensures (λ l e. omega arith)

pub bounds-keys-at : goal.bounds-keys-at
bounds-keys-at c = omega (arith, c.find-at.ensures.within)

pub bounds-marked-at : goal.bounds-marked-at
bounds-marked-at c = omega (arith, c.find-at.ensures.within)

pub returns-then-keys-at : goal.returns-then-keys-at
returns-then-keys-at c =
    let keys = c.args.self.now.ascending in
    let f = c.find-at in
    marks_kept keys.keys.now c.args.number f.result c.args.marked.now keys.ascend f.ensures (λ l e. omega arith)

pub returns : goal.returns
returns c =
    let keys = c.args.self.now.ascending in
    let f = c.find-at in
    let l : f.result < length keys.keys.now = omega (arith, f.ensures.within) in
    marks_set keys.keys.now c.args.number f.result c.args.marked.now keys.ascend l (omega arith) (omega arith)
