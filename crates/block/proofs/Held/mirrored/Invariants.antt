use mathlib.Core.Path.{◌≡◌}
use Rattle.week.specs.Rules.{word_of}
use Rattle.block.specs.Reading.{pair_bit_in}
use Rattle.block.proofs.Held.mirrored.Given as goal

abbrev pub invariant-loop-w : goal.invariant-loop-w
invariant-loop-w l = l.word ≡ word_of (pair_bit_in l.self.file.now l.self.lots l.p.0 l.q.0 l.v.0) l.w
