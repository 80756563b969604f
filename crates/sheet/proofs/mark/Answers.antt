-- `sheet::mark` meets its contract: the moves passed are marked, and those left make the same marks of it.
use mathlib.Core.Path.{sym, ◌∙◌, ap}
use lib.ListN.{length, length-set}
use Rattle.sheet.proofs.Pairs.{marked_more, marked_last}
use Rattle.sheet.proofs.mark.Goals as goal

pub loop-pair-preserved : goal.loop-pair-preserved
loop-pair-preserved c = (
  ap length c.put_mark.ensures ∙ (length-set c.loop-pair.out c.of.result.lot.0 c.args.save ∙ c.loop-pair.invariant.0),
  marked_more c.args.moves.now c.loop-pair.pair-index _ c.loop-pair-test.true c.loop-pair.out c.of.result c.of.ensures c.args.save c.put_mark.ensures c.loop-pair.invariant.1,
)

pub returns : goal.returns
returns c = sym (marked_last c.args.moves.now c.loop-pair.pair-index c.loop-pair-test.false c.args.save c.loop-pair.out) ∙ c.loop-pair.invariant.1
