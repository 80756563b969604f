use mathlib.Core.Path.{◌≡◌}
use lib.ListN.{length, drop}
use Rattle.sheet.specs.Moves.{moves_at, marked_all}
use Rattle.sheet.proofs.mark.Given as goal

abbrev pub invariant-loop-pair : goal.invariant-loop-pair
invariant-loop-pair l = (length l.out ≡ 24) × (marked_all l.save (moves_at (drop l.pair-index l.moves)) l.out ≡ marked_all l.save (moves_at l.moves) l.fn.marks)
