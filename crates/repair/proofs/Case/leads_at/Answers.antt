-- `repair::Case::leads_at` meets its contract: what may begin has few enough moves to look ahead.
use mathlib.Core.Path.{sym, ◌∙◌}
use Rattle.repair.proofs.Ahead.{lead_few}
use Rattle.repair.proofs.Case.leads_at.Goals as goal

pub few_ahead-requires-clause-few : goal.few_ahead-requires-clause-few
few_ahead-requires-clause-few c = rw c.requires.moved (lead_few _ _ _ _ _ (sym c.mends_at.ensures ∙ c.if-not-mends_at.false))
