-- Among all keys: none is before the first place, and none from the last on.
use Rattle.std.proofs.Common.{refl, length, arith}
use Rattle.seek.proofs.Laws.{parted_none}
use Rattle.seek.proofs.Ascending.find.Goals as goal

pub halve-requires : goal.halve-requires
halve-requires c = let keys = c.args.self.now.keys.now in (omega arith, omega arith, parted_none keys c.args.key (length keys) refl)
