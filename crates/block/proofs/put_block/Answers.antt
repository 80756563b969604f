-- `block::put_block` meets its contract: the body, then its check, and both into the part.
use mathlib.Core.Path.{◌∙◌}
use Rattle.week.specs.Tables.{lent}
use Rattle.block.proofs.File.{block_put}
use Rattle.block.proofs.put_block.Goals as goal

pub returns : goal.returns
returns c =
    c.copy_from_slice-2.ensures.after
    ∙ block_put (lent c.args.week.now) c.args.b c.put_body.ensures c.fnv1a.ensures c.to_le_bytes.ensures c.copy_from_slice.ensures.after
