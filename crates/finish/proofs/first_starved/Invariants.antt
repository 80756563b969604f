use Rattle.week.specs.Tables.{lent}
use Rattle.finish.specs.Search.{Fed}
use Rattle.finish.proofs.first_starved.Given as goal

abbrev pub invariant-loop-q : goal.invariant-loop-q
invariant-loop-q l = Fed (lent l.at.week) l.at.order.now l.at.words.now l.x.0 l.v.0 l.q l.met
