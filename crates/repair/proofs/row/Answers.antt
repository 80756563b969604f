-- `repair::row` meets its contract.
use mathlib.Core.Path.{refl}
use native.Mathlib.Omega.{arith}
use Rattle.repair.proofs.Rows.{run_none, run_order, run_lost, run_between, run_small, run_within, run_shown}
use Rattle.repair.proofs.row.Goals as goal

pub returns-then-is_err : goal.returns-then-is_err
returns-then-is_err c = run_none _ _ _ _ _ _ c.row_refusal.ensures c.if-is_err.ensures.value

pub returns-then-is_empty : goal.returns-then-is_empty
returns-then-is_empty c = run_order _ _ _ _ _ _ c.row_refusal.ensures c.if-is_err.ensures.value c.if-is_empty.ensures

pub lost_of-requires : goal.lost_of-requires
lost_of-requires c = run_lost _ _ _ _ _ _ c.row_refusal.ensures c.if-is_err.ensures.value c.if-is_empty.ensures

pub row_number-requires : goal.row_number-requires
row_number-requires c = run_between _ _ _ _ _ _ c.row_refusal.ensures c.if-is_err.ensures.value c.if-is_empty.ensures _ c.lost_of.ensures

pub overflow_mul-from : goal.overflow_mul-from
overflow_mul-from c = omega (arith, run_small _ _ _ _ _ _ c.row_refusal.ensures c.if-is_err.ensures.value c.if-is_empty.ensures _ c.lost_of.ensures _ c.row_number.ensures)

pub overflow_add-result : goal.overflow_add-result
overflow_add-result c = omega (arith, run_small _ _ _ _ _ _ c.row_refusal.ensures c.if-is_err.ensures.value c.if-is_empty.ensures _ c.lost_of.ensures _ c.row_number.ensures)

pub slice_bounds-result-end-2 : goal.slice_bounds-result-end-2
slice_bounds-result-end-2 c = run_within _ _ _ _ _ _ c.row_refusal.ensures c.if-is_err.ensures.value c.if-is_empty.ensures _ c.lost_of.ensures _ c.row_number.ensures

pub returns : goal.returns
returns c = run_shown _ _ _ _ _ _ c.row_refusal.ensures c.if-is_err.ensures.value c.if-is_empty.ensures _ c.lost_of.ensures _ c.row_number.ensures _ refl
