-- `sheet::open` meets its contract: each check in its turn.
use mathlib.Core.Path.{refl, sym, ◌∙◌, ap}
use native.Mathlib.Omega.{arith}
use Rattle.std.proofs.lemmas.Result.{err_from_is_err_and}
use Rattle.week.specs.declared.Refusal.TheVariants as V
use Rattle.week.specs.Rules.{Rules}
use Rattle.week.specs.Tables.{lent}
use Rattle.sheet.specs.Sheet.{stands}
use Rattle.week.proofs.Numbered.{number_some}
use Rattle.sheet.proofs.Services.{few_lots, lawful, open_early, open_week, open_length, open_six, open_none, open_refused, open_done, blank_sheet_lem}
use Rattle.sheet.proofs.open.Goals as goal

pub returns-in_err-join : goal.returns-in_err-join
returns-in_err-join c =
    let W = lent c.args.week.now in
    let p = err_from_is_err_and c.from_residual.result c.from_residual.ensures.1 in
    rw (p.1, p.2) (open_refused W c.args.order.now _ (open_early W c.args.order.now c.judge-judged.ensures c.in_err-join.ensures (number_some _)))

pub lots_stand-requires : goal.lots_stand-requires
lots_stand-requires c =
    let W = lent c.args.week.now in
    let l = lawful W _ c.rules.ensures.same (sym (open_week W c.args.order.now c.judge-judged.ensures c.in_ok-join.ensures refl)) in
    let long = open_length W c.args.order.now c.judge-judged.ensures c.in_ok-join.ensures refl in
    (l, omega arith)

pub returns-then-not-lots_stand : goal.returns-then-not-lots_stand
returns-then-not-lots_stand c =
    let W = lent c.args.week.now in
    let s = ap (λ (R : Rules). stands R c.args.order.now) (sym c.rules.ensures.same) ∙ sym c.if-not-lots_stand.ensures in
    open_refused W c.args.order.now V.Order (open_six W c.args.order.now c.judge-judged.ensures c.in_ok-join.ensures refl s)

pub pad-requires : goal.pad-requires
pad-requires c =
    let W = lent c.args.week.now in
    let few = few_lots W (open_week W c.args.order.now c.judge-judged.ensures c.in_ok-join.ensures refl) in
    let long = open_length W c.args.order.now c.judge-judged.ensures c.in_ok-join.ensures refl in
    (few, omega arith)

pub returns : goal.returns
returns c =
    let W = lent c.args.week.now in
    let s = ap (λ (R : Rules). stands R c.args.order.now) (sym c.rules.ensures.same) ∙ sym c.if-not-lots_stand.ensures in
    open_done W c.args.order.now _ (open_none W c.args.order.now c.judge-judged.ensures c.in_ok-join.ensures refl s) (blank_sheet_lem _ _ _ _ c.default.ensures c.pad.ensures)
