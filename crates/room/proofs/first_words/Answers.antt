-- `room::first_words` meets its contract: the closure asks each lot's word.
use Rattle.std.proofs.Common.{rules}
use Rattle.room.proofs.first_words.Goals as goal

pub returns : goal.returns
returns c = c.words_by.ensures _ (λ p w k. search rules)
