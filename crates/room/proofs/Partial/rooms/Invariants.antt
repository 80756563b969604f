use lib.ListN.{get_or}
use Rattle.room.specs.Room.{Counted}
use Rattle.room.proofs.Partial.rooms.Given as goal

abbrev pub invariant-loop-p : goal.invariant-loop-p
invariant-loop-p l = Counted l.self.order.now l.self.groups.now (λ q. get_or l.self.words.now q 0) l.p l.rooms
