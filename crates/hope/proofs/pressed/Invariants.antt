use Rattle.hope.specs.Blame.{Part}
use Rattle.hope.proofs.pressed.Given as goal

abbrev pub invariant-loop-p : goal.invariant-loop-p
invariant-loop-p l = Part l.at.week.numbers.n l.at.order.now l.part
