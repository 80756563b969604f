-- `hope::singles_safe` meets its contract: each lot at risk is judged, and the loss of any other is no break.
use Rattle.std.proofs.Common.{rules}
use Rattle.hope.proofs.Safe.{singles_verdict}
use Rattle.hope.proofs.singles_safe.Goals as goal

pub returns : goal.returns
returns c = singles_verdict c.requires.0 _ c.each_at_risk.ensures (λ p k. search rules) (λ p e k. search rules)
