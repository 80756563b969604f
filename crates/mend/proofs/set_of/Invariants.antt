use Rattle.mend.proofs.Sets.{Answers}
use Rattle.mend.proofs.set_of.Given as goal

abbrev pub invariant-loop-p : goal.invariant-loop-p
invariant-loop-p g l = Answers (goal.F-post g l.test) l.p l.set.0
