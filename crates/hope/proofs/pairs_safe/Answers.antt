-- `hope::pairs_safe` meets its contract: each lot at risk is judged with those behind it, and no loss of any other is a break.
use Rattle.std.proofs.Common.{rules}
use Rattle.hope.proofs.Safe.{pairs_verdict}
use Rattle.hope.proofs.pairs_safe.Goals as goal

pub returns : goal.returns
returns c = pairs_verdict c.requires.0 _ c.each_at_risk.ensures (λ p k. search rules) (λ p e k. search rules)
