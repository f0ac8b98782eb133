-- The items passed are entered; once all are, the records are the summary's. The group is the class that the item had at the level before.
use Rattle.std.proofs.Common.{◌≡◌, ◌<◌, ℕ, List, subst, arith}
use Rattle.std.proofs.lemmas.List.{length-replicate}
use Rattle.capped.proofs.Laws.{class_number}
use Rattle.classes.specs.Counted.{Enters}
use Rattle.classes.proofs.Laws.{none_entered, class_small, entered_in, sorted_all}
use Rattle.classes.proofs.records.Goals as goal

of-group : (u v : List ℕ) (k marks group before count : ℕ) → group ≡ before → Enters u v k marks group count → Enters u v k marks before count
of-group u v k marks group before count e h = subst (λ (g : ℕ). Enters u v k marks g count) e h

pub by_class-counts-requires : goal.by_class-counts-requires
by_class-counts-requires c = λ x h. class_small _ _ _ _ c.args.reg.now.accepted.items_are c.requires x (omega (arith, h, c.requires.classes_there))

pub loop-x-init : goal.loop-x-init
loop-x-init c = (length-replicate {A = ℕ} 4096 0, λ k h. none_entered _ _ _ _ k h)

pub bounds-counts-class : goal.bounds-counts-class
bounds-counts-class c = class_small _ _ _ _ c.args.reg.now.accepted.items_are c.requires c.loop-x.x (omega (arith, c.requires.classes_there))

pub enter-requires : goal.enter-requires
enter-requires c = (
  omega (arith, c.requires.classes_there),
  class_small _ _ _ _ c.args.reg.now.accepted.items_are c.requires c.loop-x.x (omega (arith, c.requires.classes_there)),
  c.loop-x.invariant.0,
)

pub loop-x-preserved : goal.loop-x-preserved
loop-x-preserved c =
    let l = c.loop-x in
    let are = c.args.reg.now.accepted.items_are in
    let here : l.x < c.args.reg.now.items = omega (arith, c.requires.classes_there) in
    let count = class_number _ _ _ _ _ (class_small _ _ _ _ are c.requires l.x here) c.by_class-counts.ensures in (
      omega arith,
      λ k h. entered_in _ _ _ _ are c.requires _ _ _ _ _ here count (of-group _ _ _ _ _ _ _ c.as_group-group.ensures c.enter.ensures) k (l.invariant.1 k h),
    )

pub returns : goal.returns
returns c =
    let l = c.loop-x in
    let reg = c.args.reg.now in
    let e : l.x ≡ reg.items = omega (arith, c.requires.classes_there) in
    sorted_all _ _ _ _ reg.accepted.items_are c.requires _ _ l.invariant.0 (λ k h. rw e at (l.invariant.1 k h))
