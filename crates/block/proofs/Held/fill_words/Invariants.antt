use mathlib.Core.Path.{◌≡◌}
use Prim.Native.Nat.{ℕ, ◌<◌}
use lib.ListN.{get_or}
use Rattle.block.specs.Parts.{or_zero}
use Rattle.block.specs.Reading.{place, words_in}
use Rattle.block.proofs.Held.fill_words.Given as goal

abbrev pub invariant-loop-p : goal.invariant-loop-p
invariant-loop-p l = (k : ℕ) → k < l.p → get_or l.words k 0 ≡ or_zero (words_in l.self.file.now l.self.lots (place l.table)) k
