use mathlib.Core.Path.{◌≡◌}
use Rattle.print.specs.Put.{Put, pieces, table_line}
use Rattle.print.proofs.Page.rows.Given as goal

abbrev pub invariant-loop-i : goal.invariant-loop-i
invariant-loop-i l = Put (pieces (table_line l.n l.a l.table) l.i) l.fn.self.end l.fn.self.out.now l.self.end l.self.out.now × (l.self.out.ghost_name ≡ l.fn.self.out.ghost_name)
