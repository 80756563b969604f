-- `print::Page::rows` meets its contract: the lines of the rows passed stand.
use mathlib.Core.Path.{refl, ◌∙◌}
use native.Mathlib.Omega.{arith}
use Rattle.robust.proofs.Rows.{count_most}
use Rattle.print.proofs.Put.{pieces_none}
use Rattle.print.proofs.Lines.{line_fits, line_put, lines_put}
use Rattle.print.proofs.Page.rows.Goals as goal

pub loop-i-init : goal.loop-i-init
loop-i-init c = (pieces_none _ _ _, refl)

pub lost_at-requires : goal.lost_at-requires
lost_at-requires c = (c.requires.0, (c.requires.1, omega (arith, c.row_count-i-end.ensures, count_most c.args.n c.args.a c.requires.2)))

pub lost_line-requires : goal.lost_line-requires
lost_line-requires c = line_fits _ _ _ _ _ c.requires.2 (omega (arith, c.row_count-i-end.ensures)) c.lost_at.ensures c.requires.4 c.loop-i.invariant.0

pub loop-i-preserved : goal.loop-i-preserved
loop-i-preserved c = (line_put _ _ _ _ _ c.requires.2 (omega (arith, c.row_count-i-end.ensures)) c.lost_at.ensures c.loop-i.invariant.0 c.lost_line.ensures.put, c.lost_line.ensures.same ∙ c.loop-i.invariant.1)

pub returns : goal.returns
returns c = record {
  put = lines_put _ _ _ _ (omega (arith, c.row_count-i-end.ensures)) c.loop-i.invariant.0;
  same = c.loop-i.invariant.1;
}
