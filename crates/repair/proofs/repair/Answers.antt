-- `repair::repair` meets its contract: each answer in its turn.
use Rattle.std.proofs.lemmas.Result.{err_from_is_err_and}
use Rattle.repair.proofs.Service.{kept_by, by_join, passed, by_order, short, none_told, has_room, one_told}
use Rattle.repair.proofs.repair.Goals as goal

pub returns-in_err-join : goal.returns-in_err-join
returns-in_err-join c =
    let p = err_from_is_err_and c.from_residual.result c.from_residual.ensures.1 in
    rw (p.1, p.2) (by_join _ _ _ _ _ _ _ c.lost_ok-one.ensures c.repair_lengths-two.ensures c.judge.ensures _ c.in_err-join.ensures)

pub keeps-requires : goal.keeps-requires
keeps-requires c = short _ _ _ _ (passed _ _ _ _ _ _ _ c.lost_ok-one.ensures c.repair_lengths-two.ensures c.judge.ensures c.in_ok-join.ensures)

pub returns-then-not-keeps : goal.returns-then-not-keeps
returns-then-not-keeps c =
    by_order _ _ _ _ (passed _ _ _ _ _ _ _ c.lost_ok-one.ensures c.repair_lengths-two.ensures c.judge.ensures c.in_ok-join.ensures)
    (kept_by _ c.rules.ensures.same c.keeps.ensures c.if-not-keeps.true)

pub lost_of-requires : goal.lost_of-requires
lost_of-requires c = (passed _ _ _ _ _ _ _ c.lost_ok-one.ensures c.repair_lengths-two.ensures c.judge.ensures c.in_ok-join.ensures).lost

pub first_repair-requires : goal.first_repair-requires
first_repair-requires c =
    let known = passed _ _ _ _ _ _ _ c.lost_ok-one.ensures c.repair_lengths-two.ensures c.judge.ensures c.in_ok-join.ensures in
    (known.tables.limits.some, known.tables.limits.few)

pub returns-in_default : goal.returns-in_default
returns-in_default c =
    none_told _ _ _ _ (passed _ _ _ _ _ _ _ c.lost_ok-one.ensures c.repair_lengths-two.ensures c.judge.ensures c.in_ok-join.ensures)
    (kept_by _ c.rules.ensures.same c.keeps.ensures c.if-not-keeps.false) _ c.lost_of.ensures c.in_default.ensures

pub copy_slots-requires : goal.copy_slots-requires
copy_slots-requires c =
    has_room _ _ _ _ (passed _ _ _ _ _ _ _ c.lost_ok-one.ensures c.repair_lengths-two.ensures c.judge.ensures c.in_ok-join.ensures)
    (kept_by _ c.rules.ensures.same c.keeps.ensures c.if-not-keeps.false) _ c.lost_of.ensures _ c.in-Some.ensures

pub returns : goal.returns
returns c =
    one_told _ _ _ _ (passed _ _ _ _ _ _ _ c.lost_ok-one.ensures c.repair_lengths-two.ensures c.judge.ensures c.in_ok-join.ensures)
    (kept_by _ c.rules.ensures.same c.keeps.ensures c.if-not-keeps.false) _ c.lost_of.ensures _ c.in-Some.ensures _ c.copy_slots.ensures
