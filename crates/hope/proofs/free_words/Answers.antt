-- `hope::free_words` meets its contract: the words of the lots passed are made.
use native.Mathlib.Omega.{arith}
use Rattle.hope.proofs.Safe.{freed_next}
use Rattle.hope.proofs.free_words.Goals as goal

pub loop-p-preserved : goal.loop-p-preserved
loop-p-preserved c =
    rw c.from.ensures
    (freed_next c.loop-p.invariant _ _ _ (omega arith) c.word_of.ensures c.slot_in.ensures c.free_word.ensures c.word_of.type_inv c.free_word.type_inv)
