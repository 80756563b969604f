-- `block::held_refusal` meets its contract: numbers within their limits make a small file.
use mathlib.Core.Path.{sym}
use native.Mathlib.Omega.{arith}
use Rattle.week.proofs.Tables.{limits}
use Rattle.block.proofs.Sizes.{blocks_small}
use Rattle.block.proofs.held_refusal.Goals as goal

pub blocks_for-requires : goal.blocks_for-requires
blocks_for-requires c = let l = limits _ (sym c.if-not-numbers_ok.ensures) in (l.some, l.few)

pub overflow_mul-blocks_for : goal.overflow_mul-blocks_for
overflow_mul-blocks_for c = omega (arith, blocks_small c.args.numbers.n (limits _ (sym c.if-not-numbers_ok.ensures)).few)

pub invariant_of-held : goal.invariant_of-held
invariant_of-held c = let l = limits _ (sym c.if-not-numbers_ok.ensures) in record { few = (l.some, l.few) }
