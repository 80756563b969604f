-- `week::within` meets its contract: a word is inside another if `&` leaves it as it is.
use borrow.Author.Rules.{rules}
use Rattle.week.proofs.Words.{inside_and}
use Rattle.week.proofs.within.Goals as goal

pub returns : goal.returns
returns c = inside_and c.args.part c.args.whole (search rules)
