use mathlib.Core.Path.{◌≡◌}
use mathlib.Core.List.{◌++◌}
use Prim.Native.Nat.{◌*◌}
use lib.ListN.{drop}
use Rattle.lex.specs.Lists.{list_of}
use Rattle.week.specs.Tables.{lent}
use Rattle.block.specs.File.{file_byte}
use Rattle.block.proofs.put_blocks.Given as goal

abbrev pub invariant-loop-b : goal.invariant-loop-b
invariant-loop-b l = l.file ≡ list_of (file_byte (lent l.week)) (l.b * 512) ++ drop (l.b * 512) l.initial.file
