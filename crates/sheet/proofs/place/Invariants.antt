use mathlib.Core.Path.{◌≡◌}
use lib.ListN.{drop}
use Rattle.sheet.specs.Moves.{moves_at, placed_all}
use Rattle.sheet.proofs.place.Given as goal

abbrev pub invariant-loop-pair : goal.invariant-loop-pair
invariant-loop-pair l = placed_all (moves_at (drop l.pair-index l.moves)) l.out.slots ≡ placed_all (moves_at l.moves) l.fn.order
