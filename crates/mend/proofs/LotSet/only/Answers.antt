-- `LotSet::only` meets its contract.
use Rattle.mend.proofs.Sets.{one_lot_lem}
use Rattle.mend.proofs.LotSet.only.Goals as goal

pub returns : goal.returns
returns c = one_lot_lem c.args.p.0 c.requires
