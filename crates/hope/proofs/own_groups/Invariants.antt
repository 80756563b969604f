use Rattle.hope.specs.Blame.{OwnGroups}
use Rattle.hope.proofs.own_groups.Given as goal

abbrev pub invariant-loop-p : goal.invariant-loop-p
invariant-loop-p l = OwnGroups l.at.order.now l.at.groups.now l.p l.own
