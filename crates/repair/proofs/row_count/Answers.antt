-- `repair::row_count` meets its contract.
use mathlib.Core.Path.{◌≡◌, sym, ◌∙◌, ap}
use native.Mathlib.Omega.{arith}
use Rattle.repair.specs.Break.{row_count}
use Rattle.repair.proofs.Numbering.{count_two}
use Rattle.repair.proofs.Rows.{count_none, count_one}
use Rattle.repair.proofs.row_count.Goals as goal

pub returns-in-0 : goal.returns-in-0
returns-in-0 c = rw c.in-0.is (sym (count_none _))

pub returns-in-1 : goal.returns-in-1
returns-in-1 c = rw c.in-1.is (sym (count_one _))

pub returns-in_default : goal.returns-in_default
returns-in_default c = let two : c.args.a ≡ 2 = omega arith in sym (ap (row_count c.args.n) two ∙ count_two c.args.n c.requires.1.0)
