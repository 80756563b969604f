-- `solve::solve` meets its contract: each answer in its turn.
use mathlib.Core.Path.{sym}
use Rattle.std.proofs.lemmas.Result.{err_from_is_err_and}
use Rattle.week.specs.Tables.{lent}
use Rattle.week.proofs.Tables.{accepted}
use native.Mathlib.Omega.{arith}
use Rattle.week.proofs.Numbered.{number_some}
use Rattle.solve.proofs.Service.{by_tables, ready, by_none, put_size, by_search}
use Rattle.solve.proofs.solve.Goals as goal

pub returns-in_err-table_admits : goal.returns-in_err-table_admits
returns-in_err-table_admits c =
    let p = err_from_is_err_and c.from_residual.result c.from_residual.ensures.1 in
    rw (p.1, p.2) (by_tables (lent c.args.week.now) _ _ _ c.in_err-table_admits.ensures (number_some _))

pub find_super-requires : goal.find_super-requires
find_super-requires c = (ready (lent c.args.week.now) c.args.order.now c.args.table.now (sym c.in_ok-table_admits.ensures)).fine

pub returns-in_default : goal.returns-in_default
returns-in_default c = by_none (lent c.args.week.now) _ _ (ready _ _ _ (sym c.in_ok-table_admits.ensures)) (sym c.in_default.ensures.found)

pub copy_slots-requires : goal.copy_slots-requires
copy_slots-requires c =
    let k = ready (lent c.args.week.now) c.args.order.now c.args.table.now (sym c.in_ok-table_admits.ensures) in
    let l = (accepted _ k.fine).limits.few in
    omega (arith, k.size)

pub put_rows-requires : goal.put_rows-requires
put_rows-requires c =
    let k = ready (lent c.args.week.now) c.args.order.now c.args.table.now (sym c.in_ok-table_admits.ensures) in
    (k.fine, (put_size _ _ _ k (sym c.in-Some.ensures.found) _ _ c.in-Some.ensures.slots c.copy_slots.ensures, k.room))

pub returns : goal.returns
returns c =
    let k = ready (lent c.args.week.now) c.args.order.now c.args.table.now (sym c.in_ok-table_admits.ensures) in
    by_search _ _ _ k (sym c.in-Some.ensures.found) _ _ c.in-Some.ensures.slots c.copy_slots.ensures _ c.put_rows.ensures
