-- `hope::each_at_risk` meets its contract: there are at most 24 lots.
use native.Mathlib.Omega.{arith}
use Rattle.hope.proofs.Safe.{going_few}
use Rattle.hope.proofs.each_at_risk.Goals as goal

pub overflow_cast-p-end : goal.overflow_cast-p-end
overflow_cast-p-end g c = omega (arith, going_few c.requires.going)
