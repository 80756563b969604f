use mathlib.Core.Path.{◌≡◌}
use mathlib.Core.List.{[]}
use lib.ListN.{get_or}
use Rattle.pairs.specs.Pairs.{pair_at}
use Rattle.pairs.proofs.Pairs.{rest}
use Rattle.pairs.proofs.pair_at.Given as goal

abbrev pub invariant-loop-p : goal.invariant-loop-p
invariant-loop-p l = get_or (rest l.n l.p) l.left [] ≡ pair_at l.n l.r
