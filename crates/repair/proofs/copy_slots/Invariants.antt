use mathlib.Core.Path.{◌≡◌}
use lib.ListN.{take}
use Rattle.repair.proofs.copy_slots.Given as goal

abbrev pub invariant-loop-i : goal.invariant-loop-i
invariant-loop-i l = take l.i l.out ≡ take l.i l.slots
