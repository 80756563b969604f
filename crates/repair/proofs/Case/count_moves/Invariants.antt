use Rattle.std.proofs.Common.{◌≡◌}
use Rattle.lex.specs.Every.{count}
use Rattle.repair.specs.Repair.{moves_at}
use Rattle.repair.specs.Found.{case_of}
use Rattle.repair.proofs.Case.count_moves.Given as goal

abbrev pub invariant-loop-p : goal.invariant-loop-p
invariant-loop-p l = l.moved ≡ count (moves_at (case_of l.self) l.to) l.p
