-- `solve::wrong_row` meets its contract: the rows passed are right.
use mathlib.Core.Path.{sym, ◌∙◌}
use native.Mathlib.Omega.{arith}
use Rattle.std.proofs.Common.{below_more}
use Rattle.week.specs.Tables.{lent}
use Rattle.week.proofs.Tables.{accepted}
use Rattle.solve.proofs.Table.{place_loss}
use Rattle.solve.proofs.Judging.{right_here, first_only, first_none}
use Rattle.solve.proofs.wrong_row.Goals as goal

pub row_count-i-end-requires : goal.row_count-i-end-requires
row_count-i-end-requires c = let l = (accepted _ c.requires.0).limits in (l.some, (l.few, l.breaks))

pub lost_at-requires : goal.lost_at-requires
lost_at-requires c = place_loss (lent c.args.week.now) c.loop-i.i c.requires.0 (rw c.row_count-i-end.ensures at c.loop-i-test.true)

pub returns-then-not-is_right : goal.returns-then-not-is_right
returns-then-not-is_right c =
    let more = rw c.row_count-i-end.ensures at c.loop-i-test.true in
    let here = right_here (lent c.args.week.now) _ _ _ c.loop-i.i _ c.requires.0 more c.lost_at.ensures c.is_right.ensures in
    (more, first_only (lent c.args.week.now) _ _ c.loop-i.i more (sym here ∙ c.if-not-is_right.true) c.loop-i.invariant)

pub loop-i-preserved : goal.loop-i-preserved
loop-i-preserved c =
    let more = rw c.row_count-i-end.ensures at c.loop-i-test.true in
    let here = right_here (lent c.args.week.now) _ _ _ c.loop-i.i _ c.requires.0 more c.lost_at.ensures c.is_right.ensures in
    below_more _ _ c.loop-i.invariant (sym here ∙ c.if-not-is_right.false)

pub returns : goal.returns
returns c = first_none (lent c.args.week.now) _ _ (λ j h. c.loop-i.invariant j (let e = c.row_count-i-end.ensures in omega arith))
