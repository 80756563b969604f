-- `finish::least` meets its contract: what is found, or what was known.
use native.Mathlib.Omega.{arith}
use Rattle.finish.proofs.Search.{known_low, best_next}
use Rattle.finish.proofs.least.Goals as goal

pub finish-requires : goal.finish-requires
finish-requires c = (c.requires.0, (c.requires.1.0.going, ((c.requires.1.0.lot, best_next c.requires.1.0), let l = known_low c.requires.1.0 c.requires.1.1 in omega arith)))
