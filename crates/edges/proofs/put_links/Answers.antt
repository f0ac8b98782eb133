-- The class links still to come make them all (`Written`); there are no more of them than keys.
use Rattle.std.proofs.Common.{refl, ap, ◌∙◌, ◌<◌, length, arith}
use Rattle.theory.proofs.CountLaws.{every_at}
use Rattle.edges.proofs.Laws.{put_long, written_none, written_skip, written_next, written_all}
use Rattle.edges.proofs.put_links.Goals as goal
use Rattle.edges.proofs.put_links.Goals.{then-least-v, else-least-v}

pub loop-v-init : goal.loop-v-init
loop-v-init c = (omega arith, refl, written_none _ _)

pub put_link-requires : goal.put_link-requires
put_link-requires c = (omega (arith, c.requires), every_at (λ v. v < 16777216) 0 c.args.keys.now c.requires.2 c.loop-v.v-index (omega arith))

pub overflow_add-least : goal.overflow_add-least
overflow_add-least c = omega (arith, every_at (λ v. v < 16777216) 0 c.args.keys.now c.requires.2 c.loop-v.v-index (omega arith))

pub loop-v-preserved : goal.loop-v-preserved
loop-v-preserved c =
    let l = c.loop-v in
    let h : l.v-index < length c.args.keys.now = omega arith in
    elim c.if-least-v.branch [
      | then-least-v w ↦
          let put = w.out-is ∙ w.put_link.ensures in
          let next = written_next _ l.out l.v-index l.least l.r _ h refl l.invariant.2 c.if-least-v.out w.if-least-v.true (omega (arith, c.requires)) put in
          (omega (arith, w.r-is), put_long l.out c.if-least-v.out l.r _ put ∙ l.invariant.1, rw (w.least-is, w.r-is) next)
      | else-least-v w ↦
          let next = written_skip _ _ l.v-index l.least l.r _ h refl l.invariant.2 w.if-least-v.false in
          (omega (arith, w.r-is), ap length w.out-is ∙ l.invariant.1, rw (w.out-is, w.least-is, w.r-is) next)
    ]

pub returns : goal.returns
returns c = let l = c.loop-v in written_all _ _ l.v-index l.least l.r (omega arith) l.invariant.2
