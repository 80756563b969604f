-- `solve::put_rows` meets its contract: the rows passed stand one behind the other.
use mathlib.Core.Path.{◌∙◌}
use native.Mathlib.Omega.{arith}
use Rattle.week.specs.Tables.{lent}
use Rattle.week.proofs.Tables.{accepted}
use Rattle.repair.specs.Break.{lost_sets}
use Rattle.robust.specs.Super.{row_of}
use Rattle.solve.proofs.Table.{flat_none, place_loss, row_written, written_all}
use Rattle.solve.proofs.put_rows.Goals as goal

pub row_count-i-end-requires : goal.row_count-i-end-requires
row_count-i-end-requires c = let l = (accepted _ c.requires.0).limits in (l.some, (l.few, l.breaks))

pub loop-i-init : goal.loop-i-init
loop-i-init c = let N = c.args.week.now.numbers in flat_none (row_of (lent c.args.week.now) c.args.order.now) (lost_sets N.n N.a) c.args.table.now N.n

pub lost_at-requires : goal.lost_at-requires
lost_at-requires c = place_loss (lent c.args.week.now) c.loop-i.i c.requires.0 (rw c.row_count-i-end.ensures at c.loop-i-test.true)

pub loop-i-preserved : goal.loop-i-preserved
loop-i-preserved c =
    let more = rw c.row_count-i-end.ensures at c.loop-i-test.true in
    row_written (lent c.args.week.now) c.args.order.now _ c.loop-i.table _ c.loop-i.i c.requires.0 c.requires.1.0 (c.loop-i.auto.table ∙ c.requires.1.1) more
    c.lost_at.ensures c.put_row.ensures c.loop-i.invariant

pub returns : goal.returns
returns c =
    let e = c.row_count-i-end.ensures in
    let h = c.loop-i.auto.i-end in
    written_all (lent c.args.week.now) _ _ c.loop-i.i (omega arith) (c.loop-i.auto.table ∙ c.requires.1.1) c.loop-i.invariant
