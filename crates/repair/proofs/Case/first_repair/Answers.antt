-- `repair::Case::first_repair` meets its contract: the loop's invariant is the search's state, and each way through the body is a turn of it.
use mathlib.Core.Path.{refl}
use native.Mathlib.Omega.{arith}
use Rattle.repair.proofs.Turns.{begins, whole, deeper, deeper_less, nothing, last_low, back, back_less}
use Rattle.repair.proofs.Case.first_repair.Goals as goal

pub lots-init : goal.lots-init
lots-init c = begins _ _ c.requires.0 c.requires.1

pub overflow_cast-d : goal.overflow_cast-d
overflow_cast-d c = omega (arith, c.lots.invariant.depth, c.requires.1)

pub pick_slot-requires : goal.pick_slot-requires
pick_slot-requires c = (c.lots.invariant.depth, c.requires.1)

pub bounds-slots-d : goal.bounds-slots-d
bounds-slots-d c = omega (arith, c.lots.invariant.depth, c.requires.1)

pub overflow_add-d : goal.overflow_add-d
overflow_add-d c = omega (arith, c.lots.invariant.depth, c.requires.1)

pub returns-then-d-n : goal.returns-then-d-n
returns-then-d-n c = whole _ _ c.lots.invariant _ c.in-Some.ensures.0 c.in-Some.ensures.1 c.if-d-n.true

pub lots-smaller-in-Some : goal.lots-smaller-in-Some
lots-smaller-in-Some c = deeper_less _ _ c.lots.invariant _ c.in-Some.ensures.0 c.in-Some.ensures.1 (omega (arith, c.lots.invariant.depth))

pub lots-preserved-in-Some : goal.lots-preserved-in-Some
lots-preserved-in-Some c = deeper _ _ c.lots.invariant _ c.in-Some.ensures.0 c.in-Some.ensures.1 (omega (arith, c.lots.invariant.depth))

pub returns-then-d-eq0 : goal.returns-then-d-eq0
returns-then-d-eq0 c = nothing _ _ c.lots.invariant _ refl c.in-None.ensures c.if-d-eq0.true

pub bounds-slots-d-in-None : goal.bounds-slots-d-in-None
bounds-slots-d-in-None c = omega (arith, c.lots.invariant.depth, c.requires.1)

pub overflow_add-from : goal.overflow_add-from
overflow_add-from c = omega (arith, last_low _ _ c.lots.invariant _ refl (omega arith))

pub lots-smaller : goal.lots-smaller
lots-smaller c = back_less _ _ c.lots.invariant _ refl (omega arith)

pub lots-preserved : goal.lots-preserved
lots-preserved c = back _ _ c.lots.invariant _ refl c.in-None.ensures (omega arith)
