use mathlib.Core.Path.{◌≡◌}
use mathlib.Core.Bool.{true}
use Prim.Native.Nat.{ℕ, ◌<◌}
use Rattle.week.specs.Tables.{lent}
use Rattle.solve.specs.Judging.{right_at}
use Rattle.solve.proofs.wrong_row.Given as goal

abbrev pub invariant-loop-i : goal.invariant-loop-i
invariant-loop-i l = (j : ℕ) → j < l.i → right_at (lent l.week) l.order l.table j ≡ true
