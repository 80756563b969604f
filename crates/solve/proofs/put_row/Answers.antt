-- `solve::put_row` meets its contract: the order, and over it what was found.
use mathlib.Core.Path.{sym, ◌∙◌, ap}
use native.Mathlib.Omega.{arith}
use lib.ListN.{length}
use Rattle.week.specs.Tables.{lent}
use Rattle.week.proofs.Tables.{accepted}
use Rattle.solve.proofs.Table.{order_copied, row_order, row_none, row_mended}
use Rattle.solve.proofs.put_row.Goals as goal

pub copy_slots-requires : goal.copy_slots-requires
copy_slots-requires c = omega (arith, c.requires.1.0, c.requires.1.1)

pub returns-then-not-is_break : goal.returns-then-not-is_break
returns-then-not-is_break c =
    order_copied (lent c.args.case.now.week) _ _ _ c.requires.1.0 c.requires.1.1 c.copy_slots.ensures
    ∙ row_order (lent c.args.case.now.week) _ _ c.requires.0 (sym c.is_break.ensures ∙ c.if-not-is_break.true)

pub first_repair-requires : goal.first_repair-requires
first_repair-requires c = let l = (accepted _ c.requires.0).limits in (l.some, l.few)

pub copy_slots-requires-in-Some : goal.copy_slots-requires-in-Some
copy_slots-requires-in-Some c =
    let l = (accepted _ c.requires.0).limits.few in
    let e = order_copied (lent c.args.case.now.week) _ _ _ c.requires.1.0 c.requires.1.1 c.copy_slots.ensures in
    omega (arith, ap length e, c.requires.1.0)

pub returns-in-Some : goal.returns-in-Some
returns-in-Some c =
    let e = order_copied (lent c.args.case.now.week) _ _ _ c.requires.1.0 c.requires.1.1 c.copy_slots.ensures in
    c.copy_slots-in-Some.ensures
    ∙ row_mended (lent c.args.case.now.week) _ _ c.requires.0 _ _ (ap length e ∙ c.requires.1.0) c.in-Some.ensures (sym c.is_break.ensures ∙ c.if-not-is_break.false)

pub returns-in_default : goal.returns-in_default
returns-in_default c =
    order_copied (lent c.args.case.now.week) _ _ _ c.requires.1.0 c.requires.1.1 c.copy_slots.ensures
    ∙ row_none (lent c.args.case.now.week) _ _ c.requires.0 c.in_default.ensures (sym c.is_break.ensures ∙ c.if-not-is_break.false)
