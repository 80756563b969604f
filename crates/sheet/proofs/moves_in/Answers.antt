-- `sheet::moves_in` meets its contract.
use mathlib.Core.Path.{refl, ◌∙◌, ap}
use Rattle.sheet.specs.Moves.{moves_at}
use Rattle.sheet.proofs.Pairs.{pairs_of}
use Rattle.sheet.proofs.moves_in.Goals as goal

pub returns : goal.returns
returns c = ap moves_at c.as_chunks.ensures.front ∙ pairs_of _ c.args.bytes.now refl
