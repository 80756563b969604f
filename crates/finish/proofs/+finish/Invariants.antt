use Rattle.lex.specs.Every.{count}
use Rattle.parts.specs.Part.{unplaced}
use Rattle.week.specs.Tables.{lent}
use Rattle.finish.specs.Search.{Held}
use Rattle.finish.proofs.+finish.Given as goal

-- each call places one lot more
abbrev pub decreases-finish : goal.decreases-finish
decreases-finish l = count (unplaced 16 l.at.now.order.now) l.at.now.week.numbers.n

abbrev pub invariant-slots : goal.invariant-slots
invariant-slots l = Held (lent l.at.week) l.at.order.now l.at.words.now l.x.0 l.v l.why
