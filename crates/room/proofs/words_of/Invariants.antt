use Rattle.room.specs.Words.{met_by, Made}
use Rattle.room.proofs.words_of.Given as goal

abbrev pub invariant-loop-p : goal.invariant-loop-p
invariant-loop-p l = Made l.rules.lots (met_by l.rules.lots l.rules.ties.now l.rules.domain.now l.order l.p) l.words
