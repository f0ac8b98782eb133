-- h is the hash of the group and the words passed.
use mathlib.Core.Path.{◌≡◌, ◌∙◌}
use Prim.Native.Nat.{◌<◌}
use native.Mathlib.Omega.{arith}
use lib.ListN.{get_or}
use Rattle.signature.specs.Signature.{size, mix, hashed, hash_sig}
use Rattle.signature.proofs.Laws.{hashed_next}
use Rattle.signature.proofs.Signatures.hash_of.Goals as goal

pub loop-w-init : goal.loop-w-init
unfolding hashed
loop-w-init c = (c.stir-h.ensures.1, c.stir-h.ensures.0)

pub loop-w-preserved : goal.loop-w-preserved
loop-w-preserved c =
    let s = c.args.self.now in
    let x = c.args.x in
    let l = c.loop-w in
    let h : l.w-index < size s.starts.now x = omega arith in (
      c.stir-h-in-loop-w.ensures.1,
      c.stir-h-in-loop-w.ensures.0
          ∙ rw l.invariant.1 (hashed_next s.starts.now s.rows.now x (mix 0 (get_or s.groups.now x 0)) l.w-index _ (c.rows_of-rows.ensures.1 l.w-index h)),
    )

pub returns : goal.returns
unfolding hash_sig
returns c =
    let l = c.loop-w in
    let e : l.w-index ≡ size c.args.self.now.starts.now c.args.x = omega arith in
    (rw e at l.invariant.1, l.invariant.0)
