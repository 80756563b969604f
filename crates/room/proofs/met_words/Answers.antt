-- `room::met_words` meets its contract: the closure asks each lot what it has left.
use Rattle.std.proofs.Common.{rules}
use Rattle.room.proofs.met_words.Goals as goal

pub returns : goal.returns
returns c = c.words_by.ensures _ (λ p w k. search rules)
