-- `print::Page::solved` meets its contract: solve's refusal, or the order and the rows that it gave.
use mathlib.Core.Path.{sym, ◌∙◌, ap}
use Rattle.week.specs.Tables.{lent}
use Rattle.week.proofs.Numbered.{answered, refused, refused_some}
use Rattle.week.proofs.Tables.{accepted}
use Rattle.print.specs.Text.{refused_line}
use Rattle.print.proofs.Put.{put_as}
use Rattle.print.proofs.Sizes.{refused_fits, table_fits}
use Rattle.print.proofs.Plan.{text_none, order_size, table_size, text_some}
use Rattle.print.proofs.Page.solved.Goals as goal

pub table-requires : goal.table-requires
table-requires c =
    let W = lent c.args.week.now in
    let l = (accepted W c.requires.0).limits in
    let size = order_size W _ _ c.requires.0 c.requires.1 c.requires.2 c.solve.ensures (answered c.in-Ok.is) in (
      l.some,
      l.few,
      l.breaks,
      table_size W _ _ c.requires.0 c.requires.1 c.requires.2 c.solve.ensures (answered c.in-Ok.is),
      rw c.requires.3 (table_fits _ _ _ _ l.few l.breaks size _ c.requires.4),
    )

pub refused-requires : goal.refused-requires
refused-requires c = rw c.requires.3 (refused_fits _ _ c.requires.4)

pub returns-in-Ok : goal.returns-in-Ok
returns-in-Ok c = record {
  put = put_as (text_some (lent c.args.week.now) _ _ c.requires.0 c.requires.1 c.requires.2 c.solve.ensures (answered c.in-Ok.is)) c.table.ensures.put;
  same = c.table.ensures.same;
}

pub returns-in-Err : goal.returns-in-Err
returns-in-Err c = record {
  put = put_as
      (text_none (lent c.args.week.now) _ _ c.requires.0 c.requires.1 c.requires.2 c.solve.ensures (refused_some c.in-Err.is)
      ∙ ap refused_line (refused c.in-Err.is ∙ sym c.number.ensures))
      c.refused.ensures.put;
  same = c.refused.ensures.same;
}
