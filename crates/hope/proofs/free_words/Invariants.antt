use Rattle.hope.specs.Safe.{Freed}
use Rattle.hope.proofs.free_words.Given as goal

abbrev pub invariant-loop-p : goal.invariant-loop-p
invariant-loop-p l = Freed l.numbers l.at.order.now l.at.words.now l.p l.free
