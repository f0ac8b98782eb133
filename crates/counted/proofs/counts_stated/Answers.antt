-- Every class passed states the count of its items.
use Rattle.std.proofs.Common.{sym, arith, below_more}
use Rattle.theory.proofs.CountLaws.{all_yes, all_no}
use Rattle.lists.proofs.Laws.{told_yes, told_no}
use Rattle.counted.proofs.Laws.{counted}
use Rattle.counted.proofs.counts_stated.Goals as goal

pub by_class-counts-requires : goal.by_class-counts-requires
by_class-counts-requires c =
    let p = c.requires.1 in
    λ x h. omega (arith, c.put_classes.ensures x (omega arith), p.class_in x (omega arith), p.few_classes)

pub bounds-counts-k : goal.bounds-counts-k
bounds-counts-k c = omega (arith, c.classes-k-end.ensures, c.requires.1.few_classes)

pub returns-then-count-counted : goal.returns-then-count-counted
returns-then-count-counted c =
    let p = c.requires.1 in
    let classes = c.classes-k-end.ensures in
    let says = counted _ _ _ _ _ _ c.loop-k.k c.requires.0 (omega (arith, classes, p.few_classes)) c.put_classes.ensures (omega arith) c.by_class-counts.ensures in
    sym (all_no _ _ c.loop-k.k (omega (arith, classes)) (told_no _ _ _ _ c.count.ensures says c.if-count-counted.true))

pub loop-k-preserved : goal.loop-k-preserved
loop-k-preserved c =
    let p = c.requires.1 in
    let classes = c.classes-k-end.ensures in
    let says = counted _ _ _ _ _ _ c.loop-k.k c.requires.0 (omega (arith, classes, p.few_classes)) c.put_classes.ensures (omega arith) c.by_class-counts.ensures in
    below_more _ _ c.loop-k.invariant (told_yes _ _ _ _ c.count.ensures says c.if-count-counted.false)

pub returns : goal.returns
returns c = sym (all_yes _ _ (λ i h. c.loop-k.invariant i (omega (arith, c.classes-k-end.ensures))))
