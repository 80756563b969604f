-- `block::Held::fill_words` meets its contract: the words passed are put.
use mathlib.Core.Path.{◌∙◌}
use native.Mathlib.Omega.{arith}
use Rattle.block.proofs.Parts.{list_from}
use Rattle.block.proofs.Checks.{words_padded}
use Rattle.block.proofs.Held.fill_words.Goals as goal

pub returns : goal.returns
returns c = list_from _ (omega arith) c.loop-p.invariant (omega arith) ∙ words_padded _ _ _ c.args.self.now.few.1
