-- `room::words_by` meets its contract: the words of the lots passed are made.
use native.Mathlib.Omega.{arith}
use Rattle.room.proofs.Words.{made_next}
use Rattle.room.proofs.words_by.Goals as goal

pub loop-p-preserved : goal.loop-p-preserved
loop-p-preserved g c = λ h asked. rw c.from.ensures (made_next _ _ _ _ (omega arith) (c.loop-p.invariant h asked) (asked (record { 0 = c.loop-p.p }) c.f.result c.f.ensures) c.f.type_inv)
