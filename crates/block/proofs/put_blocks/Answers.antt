-- `block::put_blocks` meets its contract: the blocks passed are put.
use Prim.Native.Nat.{◌+◌, ◌*◌}
use mathlib.Core.Path.{◌∙◌}
use native.Mathlib.Omega.{arith}
use borrow.Rule.Slice.PartMut.{mid_len}
use Rattle.week.specs.Tables.{lent}
use Rattle.week.proofs.Tables.{limits}
use Rattle.block.specs.File.{file_of}
use Rattle.block.proofs.Parts.{store_none, store_end}
use Rattle.block.proofs.File.{blocks_more}
use Rattle.block.proofs.Sizes.{blocks_small}
use Rattle.block.proofs.put_blocks.Goals as goal

pub blocks_for-b-end-requires : goal.blocks_for-b-end-requires
blocks_for-b-end-requires c = let l = limits _ c.requires.0 in (l.some, l.few)

pub loop-b-init : goal.loop-b-init
loop-b-init c = store_none _ _

pub put_block-requires : goal.put_block-requires
put_block-requires c =
    let f = blocks_small c.args.week.now.numbers.n (limits _ c.requires.0).few in
    (c.requires.0, omega arith, mid_len (c.loop-b.b * 512) (c.loop-b.b * 512 + 512) c.loop-b.file (omega arith) ∙ omega arith)

pub loop-b-preserved : goal.loop-b-preserved
loop-b-preserved c = blocks_more (lent c.args.week.now) c.loop-b.b c.args.file.now c.loop-b.invariant c.put_block.ensures

pub returns : goal.returns
unfolding file_of
returns c = store_end _ _ c.loop-b.invariant (omega arith) (omega arith)
