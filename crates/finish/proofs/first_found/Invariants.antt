use Rattle.week.specs.Tables.{lent}
use Rattle.finish.proofs.First.{Outer}
use Rattle.finish.proofs.first_found.Given as goal

abbrev pub invariant-loop-d : goal.invariant-loop-d
invariant-loop-d l = Outer (lent l.week) l.order l.words l.known.slots l.first.slots l.d
