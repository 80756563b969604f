-- `solve::check` meets its contract: each answer in its turn.
use mathlib.Core.Path.{sym, ◌∙◌}
use native.Mathlib.Omega.{arith}
use Rattle.std.proofs.lemmas.Result.{err_from_is_err_and}
use Rattle.week.specs.Tables.{lent}
use Rattle.week.proofs.Tables.{accepted}
use Rattle.repair.proofs.Rows.{count_small}
use Rattle.week.proofs.Numbered.{number_some}
use Rattle.solve.proofs.Service.{ready}
use Rattle.solve.proofs.Judging.{by_tables, told_tables, by_order, by_row, by_rows}
use Rattle.solve.proofs.check.Goals as goal

pub returns-in_err-table_admits : goal.returns-in_err-table_admits
returns-in_err-table_admits c =
    let p = err_from_is_err_and c.from_residual.result c.from_residual.ensures.1 in
    record {
      judged = rw (p.1, p.2) (by_tables (lent c.args.week.now) _ _ _ c.in_err-table_admits.ensures (number_some _));
      told = rw (p.1, p.2) (told_tables (lent c.args.week.now) _ _ _ c.in_err-table_admits.ensures);
    }

pub keeps-requires : goal.keeps-requires
keeps-requires c =
    let k = ready (lent c.args.week.now) c.args.order.now c.args.table.now (sym c.in_ok-table_admits.ensures) in
    let l = (accepted _ k.fine).limits.few in
    omega (arith, k.size)

pub returns-then-not-keeps-clause-judged : goal.returns-then-not-keeps-clause-judged
returns-then-not-keeps-clause-judged c =
    let k = ready (lent c.args.week.now) c.args.order.now c.args.table.now (sym c.in_ok-table_admits.ensures) in
    by_order _ _ _ k (sym (rw c.rules-rules.ensures.same at c.keeps.ensures) ∙ c.if-not-keeps.true)

pub wrong_row-requires : goal.wrong_row-requires
wrong_row-requires c =
    let k = ready (lent c.args.week.now) c.args.order.now c.args.table.now (sym c.in_ok-table_admits.ensures) in
    (k.fine, (k.size, k.room))

pub overflow_cast-result : goal.overflow_cast-result
overflow_cast-result c =
    let k = ready (lent c.args.week.now) c.args.order.now c.args.table.now (sym c.in_ok-table_admits.ensures) in
    let l = (accepted _ k.fine).limits in
    let m = count_small _ _ l.few l.breaks in
    omega (arith, c.in-Some.ensures.0)

pub returns-in-Some-clause-judged : goal.returns-in-Some-clause-judged
returns-in-Some-clause-judged c =
    let k = ready (lent c.args.week.now) c.args.order.now c.args.table.now (sym c.in_ok-table_admits.ensures) in
    let keep = sym (rw c.rules-rules.ensures.same at c.keeps.ensures) ∙ c.if-not-keeps.false in
    by_row _ _ _ k keep _ c.in-Some.ensures.0 c.in-Some.ensures.1

pub returns-clause-judged : goal.returns-clause-judged
returns-clause-judged c =
    let k = ready (lent c.args.week.now) c.args.order.now c.args.table.now (sym c.in_ok-table_admits.ensures) in
    let keep = sym (rw c.rules-rules.ensures.same at c.keeps.ensures) ∙ c.if-not-keeps.false in
    by_rows _ _ _ k keep c.in_default.ensures
