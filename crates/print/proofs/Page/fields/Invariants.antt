use mathlib.Core.Path.{◌≡◌}
use Rattle.print.specs.Put.{Put, pieces}
use Rattle.print.proofs.Put.{field_at}
use Rattle.print.proofs.Page.fields.Given as goal

abbrev pub invariant-loop-slot : goal.invariant-loop-slot
invariant-loop-slot l = Put (pieces (field_at l.slots) l.slot-index) l.fn.self.end l.fn.self.out.now l.self.end l.self.out.now × (l.self.out.ghost_name ≡ l.fn.self.out.ghost_name)
