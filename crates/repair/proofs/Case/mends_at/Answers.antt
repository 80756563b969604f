-- `repair::Case::mends_at` meets its contract.
use native.Mathlib.Omega.{arith}
use Rattle.repair.proofs.Walks.{count_low}
use Rattle.repair.proofs.Case.mends_at.Goals as goal

pub overflow_add-begun : goal.overflow_add-begun
overflow_add-begun c = omega (arith, count_low _ _ _ _ _ c.requires.moved c.from.ensures, c.requires.next, c.requires.few)
