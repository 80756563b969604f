-- `block::put_body` meets its contract: the bytes passed are put.
use native.Mathlib.Omega.{arith}
use Rattle.block.specs.File.{body}
use Rattle.block.proofs.Parts.{list_from}
use Rattle.block.proofs.put_body.Goals as goal

pub returns : goal.returns
unfolding body
returns c = list_from _ (omega arith) c.loop-i.invariant (omega arith)
