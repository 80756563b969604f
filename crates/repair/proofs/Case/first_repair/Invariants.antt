use Rattle.lex.proofs.Search.{left}
use Rattle.repair.specs.Found.{case_of, rules_in}
use Rattle.repair.proofs.Turns.{Begins}
use Rattle.repair.proofs.Case.first_repair.Given as goal

abbrev pub invariant-lots : goal.invariant-lots
invariant-lots l = Begins (rules_in l.self) (case_of l.self) l.slots l.d l.from

abbrev pub decreases-lots : goal.decreases-lots
decreases-lots l = left 16 l.self.week.numbers.n l.slots l.d l.from
