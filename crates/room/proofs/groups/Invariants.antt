use Rattle.room.specs.Grouped.{Grouped}
use Rattle.room.proofs.groups.Given as goal

abbrev pub invariant-loop-p : goal.invariant-loop-p
invariant-loop-p l = Grouped l.rules.lots l.rules.ties.now l.p l.made
