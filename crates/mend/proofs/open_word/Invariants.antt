use Rattle.mend.specs.Mend.{Opens}
use Rattle.mend.proofs.open_word.Given as goal

abbrev pub invariant-loop-q : goal.invariant-loop-q
invariant-loop-q l = Opens l.rules.lots l.rules.domain.now l.rules.ties.now l.slots l.x.0 l.q l.own
