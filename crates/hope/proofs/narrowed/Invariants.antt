use Rattle.hope.specs.Blame.{Part}
use Rattle.hope.proofs.narrowed.Given as goal

abbrev pub invariant-loop-p : goal.invariant-loop-p
invariant-loop-p l = Part 24 l.order l.part
