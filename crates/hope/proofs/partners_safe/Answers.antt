-- `hope::partners_safe` meets its contract: each lot at risk behind the lot is judged, and the loss with any other is no break.
use native.Mathlib.Omega.{arith}
use Rattle.std.proofs.Common.{rules}
use Rattle.hope.proofs.Safe.{judging_few, partners_verdict}
use Rattle.hope.proofs.partners_safe.Goals as goal

pub overflow_add-x : goal.overflow_add-x
overflow_add-x c = omega (arith, judging_few c.requires.0, c.requires.2.0)

pub returns : goal.returns
returns c = partners_verdict c.requires.0 c.args.x.0 _ c.each_at_risk.ensures (λ p k. search rules) (λ p e k. search rules)
