-- `block::number_at` meets its contract: the six are bytes.
use native.Mathlib.Omega.{arith}
use Rattle.block.specs.Content.{number_at}
use Rattle.block.proofs.Content.{number_small}
use Rattle.block.proofs.number_at.Goals as goal

pub overflow_cast-result : goal.overflow_cast-result
unfolding number_at
overflow_cast-result c = omega (arith, number_small c.args.numbers c.args.i c.requires.0)
