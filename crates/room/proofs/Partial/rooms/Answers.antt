-- `room::Partial::rooms` meets its contract: the lots passed are counted, each in its group.
use mathlib.Core.Path.{sym, ◌∙◌}
use native.Mathlib.Omega.{arith}
use Rattle.room.proofs.Rooms.{counted_start, counted_placed, counted_beyond, counted_more, crowd_small}
use Rattle.room.proofs.Partial.rooms.Goals as goal

pub loop-p-init : goal.loop-p-init
loop-p-init c = counted_start _ _ _

pub loop-p-preserved-then-is_placed : goal.loop-p-preserved-then-is_placed
loop-p-preserved-then-is_placed c = counted_placed _ _ _ _ _ c.loop-p.invariant (sym c.is_placed.ensures ∙ c.if-is_placed.true)

pub loop-p-preserved-then-g-ge24 : goal.loop-p-preserved-then-g-ge24
loop-p-preserved-then-g-ge24 c = counted_beyond _ _ _ _ _ c.loop-p.invariant _ (sym c.is_placed.ensures ∙ c.if-is_placed.false) (c.from-g.ensures ∙ c.group_of.ensures) c.if-g-ge24.true

pub overflow_add-room : goal.overflow_add-room
overflow_add-room c = omega (arith, crowd_small _ _ _ _ _ c.loop-p.invariant c.from-g.result (omega arith) (omega arith))

pub loop-p-preserved : goal.loop-p-preserved
loop-p-preserved c = counted_more _ _ _ _ _ c.loop-p.invariant _ _ (sym c.is_placed.ensures ∙ c.if-is_placed.false) (c.from-g.ensures ∙ c.group_of.ensures) c.if-g-ge24.false c.word_of.ensures
