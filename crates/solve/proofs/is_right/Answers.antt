-- `solve::is_right` meets its contract: a row that need not be mended, and one that must.
use mathlib.Core.Path.{sym, ◌∙◌}
use native.Mathlib.Omega.{arith}
use Rattle.week.specs.Tables.{lent}
use Rattle.week.proofs.Tables.{accepted}
use Rattle.solve.proofs.Judging.{right_whole, right_mended}
use Rattle.solve.proofs.is_right.Goals as goal

pub returns-then-not-is_break : goal.returns-then-not-is_break
returns-then-not-is_break c = right_whole (lent c.args.case.now.week) _ _ _ _ c.eq.ensures (sym c.is_break.ensures ∙ c.if-not-is_break.true)

pub is_repair-requires : goal.is_repair-requires
is_repair-requires c = let n = (accepted _ c.requires.0).limits.few in omega (arith, c.requires.1.1)

pub returns : goal.returns
returns c = c.is_repair.ensures ∙ right_mended _ _ _ _ c.requires.0 c.requires.1.1 (sym c.is_break.ensures ∙ c.if-not-is_break.false)
