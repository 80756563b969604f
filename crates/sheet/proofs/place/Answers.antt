-- `sheet::place` meets its contract: the moves passed are placed, and those left make the same order of it.
use mathlib.Core.Path.{sym, ◌∙◌}
use Rattle.sheet.proofs.Pairs.{placed_more, placed_last}
use Rattle.sheet.proofs.place.Goals as goal

pub loop-pair-preserved : goal.loop-pair-preserved
loop-pair-preserved c = placed_more c.args.moves.now c.loop-pair.pair-index _ c.loop-pair-test.true c.loop-pair.out.slots c.of-to.result c.of-to.ensures c.placed-out.ensures c.loop-pair.invariant

pub returns : goal.returns
returns c = sym (placed_last c.args.moves.now c.loop-pair.pair-index c.loop-pair-test.false c.loop-pair.out.slots) ∙ c.loop-pair.invariant
