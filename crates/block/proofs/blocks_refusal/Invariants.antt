use mathlib.Core.Path.{◌≡◌}
use Rattle.block.specs.Reading.{blocks_refusal}
use Rattle.block.proofs.blocks_refusal.Given as goal

abbrev pub invariant-loop-b : goal.invariant-loop-b
invariant-loop-b l = blocks_refusal l.file l.b ≡ 0
