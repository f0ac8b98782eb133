-- Four calls; `lows`, `numbered` and `numbers` turn lowest items into numbers.
use mathlib.Core.Path.{◌≡◌, ◌∙◌}
use native.Mathlib.Omega.{arith}
use lib.ListN.{length}
use lib.Seq.{length-take-le}
use Rattle.signature.specs.Signature.{alike_sig, hash_sig}
use Rattle.marked.proofs.Numbered.{lows, numbered, numbers}
use Rattle.marked.proofs.Laws.{keys_listed}
use Rattle.signature.proofs.Laws.{sig_equivalence}
use Rattle.signature.proofs.Signatures.number.Goals as goal

pub find_firsts-requires-clause-listed : goal.find_firsts-requires-clause-listed
find_firsts-requires-clause-listed c =
    let s = c.args.self.now in
    keys_listed (hash_sig s.groups.now s.starts.now s.rows.now) (length s.groups.now) _ _ c.put_hashes.ensures c.sort.ensures

pub number_firsts-requires-clause-lowest : goal.number_firsts-requires-clause-lowest
number_firsts-requires-clause-lowest c =
    let s = c.args.self.now in
    let n = length s.groups.now in
    let like = alike_sig s.groups.now s.starts.now s.rows.now in
    let fs = c.find_firsts.new.firsts in
    let e : length fs ≡ n = c.find_firsts.auto.firsts ∙ length-take-le n _ (omega (arith, s.laid.few)) in
    rw e (lows like (sig_equivalence s.groups.now s.starts.now s.rows.now) fs n c.find_firsts.ensures)

pub returns : goal.returns
returns c =
    let s = c.args.self.now in
    let n = length s.groups.now in
    let like = alike_sig s.groups.now s.starts.now s.rows.now in
    let eq = sig_equivalence s.groups.now s.starts.now s.rows.now in
    let fs = c.find_firsts.new.firsts in
    let e : length fs ≡ n = c.find_firsts.auto.firsts ∙ length-take-le n _ (omega (arith, s.laid.few)) in
    let r = rw e at c.number_firsts.ensures in
    (r.0 ∙ numbered like eq fs n c.find_firsts.ensures, r.1 ∙ numbers like eq fs n c.find_firsts.ensures)
