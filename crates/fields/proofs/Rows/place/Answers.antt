-- The place of a row.
use native.Mathlib.Omega.{arith}
use Rattle.reader.proofs.Laws.{row_placed}
use Rattle.fields.proofs.Rows.place.Goals as goal

pub overflow_mul-result : goal.overflow_mul-result
overflow_mul-result c = let s = c.args.self.now in omega (arith, (row_placed _ s.exact _ _ c.requires s.at_is).1)

pub overflow_add-result : goal.overflow_add-result
overflow_add-result c = let s = c.args.self.now in omega (arith, (row_placed _ s.exact _ _ c.requires s.at_is).1)

pub returns : goal.returns
returns c = let s = c.args.self.now in row_placed _ s.exact _ _ c.requires s.at_is
