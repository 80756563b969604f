-- `print::Page::week` meets its contract: its buffers, cut to the week, have the lengths that solve asks for.
use mathlib.Core.Path.{sym, ◌∙◌, ap}
use Prim.Native.Nat.{ℕ, ◌*◌}
use native.Mathlib.Omega.{arith}
use lib.Seq.{length-take-le}
use Rattle.week.specs.Tables.{lent}
use Rattle.week.proofs.Tables.{accepted}
use Rattle.print.proofs.Sizes.{area_small}
use Rattle.print.proofs.Page.week.Goals as goal

pub row_count-requires : goal.row_count-requires
row_count-requires c = let l = (accepted (lent c.args.week.now) c.requires.0).limits in (l.some, (l.few, l.breaks))

pub overflow_mul-size : goal.overflow_mul-size
overflow_mul-size c = omega (arith, area_small (lent c.args.week.now) c.requires.0 _ c.row_count.ensures)

pub slice_bounds-order-end : goal.slice_bounds-order-end
slice_bounds-order-end c = (accepted (lent c.args.week.now) c.requires.0).limits.few

pub slice_bounds-solved-end : goal.slice_bounds-solved-end
slice_bounds-solved-end c = sym (length-take-le _ _ (accepted (lent c.args.week.now) c.requires.0).limits.few)

pub slice_bounds-table-end : goal.slice_bounds-table-end
slice_bounds-table-end c = area_small (lent c.args.week.now) c.requires.0 _ c.row_count.ensures

pub slice_bounds-solved-end-2 : goal.slice_bounds-solved-end-2
slice_bounds-solved-end-2 c = sym (length-take-le _ _ (area_small (lent c.args.week.now) c.requires.0 _ c.row_count.ensures))

pub solved-requires : goal.solved-requires
solved-requires c = (
  c.requires.0,
  length-take-le _ _ (accepted (lent c.args.week.now) c.requires.0).limits.few,
  length-take-le _ _ (area_small (lent c.args.week.now) c.requires.0 _ c.row_count.ensures) ∙ ap (λ (m : ℕ). m * c.args.week.now.numbers.n) c.row_count.ensures,
  c.requires.1,
  c.requires.2,
)
