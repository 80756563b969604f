-- `repair::lost_of` meets its contract.
use mathlib.Core.Path.{refl}
use Rattle.repair.proofs.Break.{lots_all}
use Rattle.repair.proofs.lost_of.Goals as goal

pub returns : goal.returns
returns c = lots_all _ _ c.requires refl refl
