-- `room::groups` meets its contract: the lots passed have their groups.
use native.Mathlib.Omega.{arith}
use Rattle.room.proofs.Grouped.{grouped_next}
use Rattle.room.proofs.groups.Goals as goal

pub loop-p-preserved : goal.loop-p-preserved
loop-p-preserved c = rw c.from.ensures (grouped_next _ _ _ _ _ (omega arith) c.loop-p.invariant c.first_group.ensures)
