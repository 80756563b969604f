use Rattle.lex.specs.Every.{count}
use Rattle.week.specs.Tables.{lent}
use Rattle.repair.specs.Found.{lots_of}
use Rattle.parts.specs.Part.{unplaced, Above}
use Rattle.cuts.specs.Reasons.{Later}
use Rattle.mend.proofs.+mends.Given as goal

abbrev pub invariant-loop-v : goal.invariant-loop-v
invariant-loop-v l = Above (Later (lent l.case.week) l.case.order.now (lots_of l.case.lost)) l.case.week.numbers.n 16 l.moves.slots l.x.0 l.v

-- each call decides one lot more
abbrev pub decreases-mends : goal.decreases-mends
decreases-mends l = count (unplaced 16 l.moves.now.slots) l.case.now.week.numbers.n
