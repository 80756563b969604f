-- `hope::pressed` meets its contract: parts of the order are merged.
use native.Mathlib.Omega.{arith}
use lib.ListN.{get_or}
use Rattle.room.specs.Room.{no_room}
use Rattle.hope.proofs.Safe.{part_merged, pressed_part, going_few, pressed_bound}
use Rattle.hope.proofs.pressed.Goals as goal
use Rattle.hope.proofs.pressed.Goals.{then-is_full, else-is_full}

pub rooms-rooms-requires : goal.rooms-rooms-requires
rooms-rooms-requires c = going_few c.requires

pub overflow_cast-p-end : goal.overflow_cast-p-end
overflow_cast-p-end c = omega (arith, going_few c.requires)

pub blamed-requires : goal.blamed-requires
blamed-requires c =
    rw c.rules-rules.ensures.same
    (pressed_bound c.requires _ (get_or c.rooms-rooms.result c.from-g.result no_room).slots c.word_of.result c.loop-p-test.true c.word_of.ensures)

pub loop-p-preserved : goal.loop-p-preserved
loop-p-preserved c = elim c.if-is_full.branch [
  | then-is_full w ↦
      rw w.part-is
      (part_merged (going_few c.requires) c.loop-p.invariant
      (pressed_part c.requires _ _ _ (rw c.rules-rules.ensures.same at w.blamed.ensures)) w.merge.ensures)
  | else-is_full w ↦ rw w.part-is c.loop-p.invariant
]
