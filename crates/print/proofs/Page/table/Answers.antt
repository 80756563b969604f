-- `print::put_table` meets its contract: the line of the order, then those of the rows.
use mathlib.Core.Path.{◌∙◌}
use Rattle.print.specs.Text.{plan_line}
use Rattle.print.specs.Put.{table_text}
use Rattle.print.proofs.Put.{put_more, fits_first, fits_rest}
use Rattle.print.proofs.Page.table.Goals as goal

pub plan_line-requires : goal.plan_line-requires
unfolding table_text
plan_line-requires c = fits_first (plan_line c.args.order.now) _ c.requires.4

pub rows-requires : goal.rows-requires
unfolding table_text
rows-requires c = (c.requires.0, c.requires.1, c.requires.2, c.requires.3, fits_rest c.requires.4 c.plan_line.ensures.put)

pub returns : goal.returns
unfolding table_text
returns c = record {
  put = put_more c.plan_line.ensures.put c.rows.ensures.put;
  same = c.rows.ensures.same ∙ c.plan_line.ensures.same;
}
