use mathlib.Core.Path.{◌≡◌}
use Prim.Native.Nat.{ℕ, ◌<◌}
use lib.ListN.{get_or}
use Rattle.block.specs.Parts.{or_zero}
use Rattle.block.specs.Reading.{ties_in}
use Rattle.block.proofs.Held.fill_ties.Given as goal

abbrev pub invariant-loop-i : goal.invariant-loop-i
invariant-loop-i l = (k : ℕ) → k < l.i → get_or l.ties k 0 ≡ or_zero (ties_in l.self.file.now l.self.lots) k
