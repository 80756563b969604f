use Rattle.finish.specs.Search.{lot_of, Chosen}
use Rattle.finish.proofs.choose.Given as goal

abbrev pub invariant-loop-q : goal.invariant-loop-q
invariant-loop-q l = Chosen l.at.week.numbers.n l.at.order.now l.q (lot_of l.best)
