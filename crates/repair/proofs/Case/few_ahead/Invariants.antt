use Rattle.repair.specs.Found.{case_of, rules_in}
use Rattle.repair.proofs.Ahead.{Run}
use Rattle.repair.proofs.Case.few_ahead.Given as goal

abbrev pub invariant-loop-q : goal.invariant-loop-q
invariant-loop-q l = Run (rules_in l.self) (case_of l.self) l.begun.to.now l.begun.p.0 l.v.0 l.initial.all l.all l.q
