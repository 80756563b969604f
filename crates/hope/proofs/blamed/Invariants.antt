use Rattle.week.specs.Rules.{rules_of}
use Rattle.hope.proofs.Blame.{Blaming}
use Rattle.hope.proofs.blamed.Given as goal

abbrev pub invariant-loop-p : goal.invariant-loop-p
invariant-loop-p l = Blaming (rules_of l.rules) l.order l.q.0 l.target l.p l.part l.rest
