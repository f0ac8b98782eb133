-- Each count stands for the items of its class that were passed.
use Rattle.std.proofs.Common.{◌≡◌, length, arith, length-set}
use Rattle.std.proofs.lemmas.List.{length-replicate}
use Rattle.capped.specs.declared.Capped.{Capped}
use Rattle.capped.proofs.Laws.{none_counted, one_counted}
use Rattle.capped.proofs.by_class.Goals as goal

pub loop-class-init : goal.loop-class-init
loop-class-init c = (length-replicate {A = Capped} 1024 c.none-none.result, none_counted _ _ _ c.none-none.ensures)

pub loop-class-preserved : goal.loop-class-preserved
loop-class-preserved c =
    let l = c.loop-class in (
      simp length-set l.invariant.0,
      one_counted _ _ _ _ _ l.invariant.0 (c.requires l.class-index (omega arith)) l.invariant.1 c.one_more.ensures,
    )

pub returns : goal.returns
returns c =
    let e : c.loop-class.class-index ≡ length c.args.classes.now = omega arith in
    rw e at c.loop-class.invariant.1
