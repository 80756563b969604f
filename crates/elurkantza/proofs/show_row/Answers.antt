-- Each answer in its turn, by the laws of a row copied out.
use mathlib.Core.Path.{sym}
use native.Mathlib.Omega.{arith}
use Rattle.std.proofs.lemmas.Result.{err_from_is_err_and}
use Rattle.week.proofs.Numbered.{number_some}
use Rattle.elurkantza.proofs.Calls.{shown_refused, shown_length, shown_wide, shown_copied}
use Rattle.elurkantza.proofs.show_row.Goals as goal

pub returns-in_err-row_refusal : goal.returns-in_err-row_refusal
returns-in_err-row_refusal c =
    let p = err_from_is_err_and c.from_residual.result c.from_residual.ensures.1 in
    rw (p.1, p.2) (shown_refused _ _ _ _ _ _ _ c.in_err-row_refusal.ensures (number_some _))

pub returns-then-out-n : goal.returns-then-out-n
returns-then-out-n c = shown_length _ _ _ _ _ _ (sym c.in_ok-row_refusal.ensures) (λ z. omega (arith, c.if-out-n.true))

pub copy_slots-requires : goal.copy_slots-requires
copy_slots-requires c = shown_wide _ _ _ _ _ c.args.out.now (sym c.in_ok-row_refusal.ensures) c.if-out-n.false _ c.row-run.ensures

pub returns : goal.returns
returns c = shown_copied _ _ _ _ _ _ (sym c.in_ok-row_refusal.ensures) c.if-out-n.false _ _ c.row-run.ensures c.copy_slots.ensures
