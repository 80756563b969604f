-- `repair::all_below` meets its contract: each lot is below n.
use lib.Dec.{ltb}
use Rattle.std.proofs.Common.{rules, tests}
use Rattle.repair.specs.Break.{lot_below}
use Rattle.repair.proofs.Walks.{all_items}
use Rattle.repair.proofs.all_below.Goals as goal

pub returns : goal.returns
unfolding lot_below
returns c = all_items _ _ _ _ (λ x. ltb x c.args.n) c.args.lost.now c.iter.ensures.rest (λ x b q k. search (rules, tests)) c.all.ensures.ran
