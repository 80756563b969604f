use Prim.Native.Nat.{ℕ}
use mathlib.Core.Path.{◌≡◌}
use Rattle.week.specs.declared.Lot.{Lot}
use Rattle.room.specs.Words.{Made}
use Rattle.room.proofs.words_by.Given as goal

abbrev pub invariant-loop-p : goal.invariant-loop-p
invariant-loop-p g l = (h : ℕ → ℕ) → ((p : Lot) (w : ℕ) → goal.F-post g l.f p w → w ≡ h p.0) → Made l.p h l.words
