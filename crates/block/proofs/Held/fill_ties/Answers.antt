-- `block::Held::fill_ties` meets its contract: the words passed are put.
use mathlib.Core.Path.{◌∙◌}
use native.Mathlib.Omega.{arith}
use Rattle.block.proofs.Parts.{list_from}
use Rattle.block.proofs.Ties.{ties_padded}
use Rattle.block.proofs.Held.fill_ties.Goals as goal

pub returns : goal.returns
returns c = list_from _ (omega arith) c.loop-i.invariant (omega arith) ∙ ties_padded _ _ c.args.self.now.few.1
