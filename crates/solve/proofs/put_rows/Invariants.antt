use mathlib.Core.Path.{◌≡◌}
use mathlib.Core.List.{flat_map}
use Prim.Native.Nat.{◌*◌}
use lib.ListN.{take}
use Rattle.week.specs.Tables.{lent}
use Rattle.repair.specs.Break.{lost_sets}
use Rattle.robust.specs.Super.{row_of}
use Rattle.solve.proofs.put_rows.Given as goal

abbrev pub invariant-loop-i : goal.invariant-loop-i
invariant-loop-i l = take (l.i * l.n) l.table ≡ flat_map (row_of (lent l.week) l.order) (take l.i (lost_sets l.week.numbers.n l.week.numbers.a))
