use Rattle.hope.proofs.Blame.{Merging}
use Rattle.hope.proofs.merge.Given as goal

abbrev pub invariant-loop-p : goal.invariant-loop-p
invariant-loop-p l = Merging l.initial.part l.more l.x.0 l.p l.part
