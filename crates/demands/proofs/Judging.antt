-- Demand 2, of check: it accepts exactly the super solutions with right rows, names the first wrong row, and accepts what solve gives.
-- Assumes nothing.
use mathlib.Core.Path.{◌≡◌, refl, sym, ◌∙◌, ap, subst}
use mathlib.Core.Bool.{Bool, true, false, cond, true≢false}
use mathlib.Core.List.{List, [], ◌∷◌}
use Prim.Native.Nat.{ℕ, ◌≤◌, ◌<◌}
use native.Mathlib.Omega.{arith}
use lib.ListN.{length, get_or}
use borrow.Author.Tests.{eq-eqb}
use Rattle.lex.specs.Every.{every, some_of}
use Rattle.lex.specs.Lists.{same}
use Rattle.lex.proofs.Every.{every_true, every_at, both, false_of, not_both}
use Rattle.lex.proofs.Lists.{same_eq, same_self}
use Rattle.week.specs.Refusal.{unless, or_else}
use Rattle.week.specs.Rules.{keeps}
use Rattle.week.specs.Tables.{Week, lots, pair_rules, refusal, admits}
use Rattle.week.proofs.Tables.{accepted, zero_first, zero_rest, passed_first, passed_last, passed_rest, failed_last, runs_on, goes_on, goes_off, stops_last, admits_tables}
use Rattle.repair.specs.Break.{row_number}
use Rattle.repair.specs.Repair.{case, is_repair}
use Rattle.repair.specs.Service.{row_lengths}
use Rattle.robust.specs.Super.{row_sets, is_break}
use Rattle.solve.specs.Service.{solve_answer, solve_order, solve_table}
use Rattle.solve.specs.Judging.{right, right_at, rows_of, first_wrong, check_answer, check_row}
use Rattle.solve.proofs.Service.{ready}
use Rattle.solve.proofs.Judging.{first_wrong_lem, first_before, first_only, wrong_some, some_wrong}
use Rattle.demands.specs.Calls.{write_refusals}
use Rattle.demands.specs.Plans.{SetOfLots, RightRow, row_for, Robust, FirstWrong}
use Rattle.demands.proofs.Demand1.{link, admitted, passes_over}
use Rattle.demands.proofs.Sets.{set_row, row_set, set_of, number_of}
use Rattle.demands.proofs.Demand2.{solve_admits, solve_first, solve_long, solve_rows}

-- One row: the test that the code makes, and the sentence

module _ (W : Week) (s A r : List ℕ) where
  right_read : right W s A r ≡ true → RightRow W s A r
  unfolding right
  right_read e = record {
    broken = λ b. sym (ap (λ (t : Bool). cond t (is_repair (pair_rules W) (case W.numbers W.give s A) r) (same r s)) b) ∙ e;
    whole = λ b. same_eq r s (sym (ap (λ (t : Bool). cond t (is_repair (pair_rules W) (case W.numbers W.give s A) r) (same r s)) b) ∙ e);
  }

  right_make : RightRow W s A r → right W s A r ≡ true
  unfolding right
  right_make h = go (is_break W s A) refl
    where
      go : (t : Bool) → is_break W s A ≡ t → cond t (is_repair (pair_rules W) (case W.numbers W.give s A) r) (same r s) ≡ true
      go true b = h.broken b
      go false b = ap (λ (l : List ℕ). same l s) (h.whole b) ∙ same_self s

-- A table's rows, by their sets

module _ (W : Week) (s table : List ℕ) (fine : refusal W ≡ 0) where
  few : lots W ≤ 24
  few = (accepted W fine).limits.few

  two : W.numbers.a ≤ 2
  two = (accepted W fine).limits.breaks

  module _ (A : List ℕ) (set : SetOfLots (lots W) W.numbers.a A) where
    row_test : right_at W s table (row_number (lots W) A) ≡ right W s A (row_for W table A)
    unfolding right_at
    row_test = ap (λ (B : List ℕ). right W s B (row_for W table A)) (row_set (lots W) W.numbers.a two A set few)

    row_read : right_at W s table (row_number (lots W) A) ≡ true → RightRow W s A (row_for W table A)
    row_read e = right_read W s A (row_for W table A) (sym row_test ∙ e)

    row_make : RightRow W s A (row_for W table A) → right_at W s table (row_number (lots W) A) ≡ true
    row_make h = row_test ∙ right_make W s A (row_for W table A) h

    row_under : row_number (lots W) A < rows_of W
    row_under = set_row (lots W) W.numbers.a two A set few

  -- row i is that of its set
  module _ (i : ℕ) (row : i < rows_of W) where
    abbrev set_at : List ℕ
    set_at = get_or (row_sets W) i []

    at_is : SetOfLots (lots W) W.numbers.a set_at
    at_is = set_of (lots W) W.numbers.a i two row

    at_number : row_number (lots W) set_at ≡ i
    at_number = number_of (lots W) W.numbers.a i two row few

    at_make : RightRow W s set_at (row_for W table set_at) → right_at W s table i ≡ true
    at_make h = ap (right_at W s table) (sym at_number) ∙ row_make set_at at_is h

    at_read : RightRow W s set_at (row_for W table set_at) → right_at W s table i ≡ false → ⊥
    at_read h e = not_both (at_make h) e

  -- all rows are right
  rows_read : every (right_at W s table) (rows_of W) ≡ true → (A : List ℕ) → SetOfLots (lots W) W.numbers.a A → RightRow W s A (row_for W table A)
  rows_read e A set = row_read A set (every_at (right_at W s table) (rows_of W) (row_number (lots W) A) e (row_under A set))

  rows_make : ((A : List ℕ) → SetOfLots (lots W) W.numbers.a A → RightRow W s A (row_for W table A)) → every (right_at W s table) (rows_of W) ≡ true
  rows_make h = every_true (right_at W s table) (rows_of W) (λ i l. at_make i l (h (set_at i l) (at_is i l)))

  -- the first wrong row is one exactly if some row is wrong
  first_read : first_wrong W s table < rows_of W → FirstWrong W s table (first_wrong W s table)
  first_read h =
      let i = first_wrong W s table in
      record {
        set = set_at i h;
        is = at_is i h;
        number = at_number i h;
        wrong = λ r. at_read i h r (first_wrong_lem W s table h);
        before = λ A set l. row_read A set (first_before W s table (row_number (lots W) A) l);
      }

  first_make : (i : ℕ) → FirstWrong W s table i → (i < rows_of W) × (first_wrong W s table ≡ i)
  first_make i f =
      let in_rows : i < rows_of W = rw (← f.number) (row_under f.set f.is) in (
        in_rows,
        first_only W s table i in_rows
            (false_of (right_at W s table i) (λ e. f.wrong (row_read f.set f.is (ap (right_at W s table) f.number ∙ e))))
            (λ j l. let m : j < rows_of W = omega arith in at_make j m (f.before (set_at j m) (at_is j m) (rw (at_number j m) l))),
      )

-- Check

module _ (W : Week) (s table : List ℕ) where
  abbrev own : Bool
  own = row_lengths (lots W) W.numbers.a s table

  abbrev kept : Bool
  kept = keeps (pair_rules W) s

  abbrev rows_right : Bool
  rows_right = every (right_at W s table) (rows_of W)

  -- check accepts only a super solution whose rows are right
  pub check_accepts : check_answer W s table ≡ 0 → Robust W s table
  unfolding check_answer row_lengths
  check_accepts e =
      let first = zero_first (admits true own W) (or_else (unless kept 6) (unless rows_right 7)) e in
      let rest = zero_rest (admits true own W) (or_else (unless kept 6) (unless rows_right 7)) e in
      let rows = rows_read W s table (admits_tables true own W first) (passed_last rows_right 7 (λ z. omega arith) (passed_rest kept 6 (unless rows_right 7) (λ z. omega arith) rest)) in
      record {
        super = record {
          size = (ready W s table first).size;
          rules = passed_first kept 6 (unless rows_right 7) (λ z. omega arith) rest;
          repaired = λ A set b. (row_for W table A, (rows A set).broken b);
        };
        rows = rows;
      }

  -- and every such order and table, if its numbers, tables and lengths are not refused
  pub accepts_check : admits true own W ≡ 0 → Robust W s table → check_answer W s table ≡ 0
  unfolding check_answer
  accepts_check x h =
      sym (runs_on (admits true own W) (or_else (unless kept 6) (unless rows_right 7)) x
      (goes_on kept 6 (unless rows_right 7) h.super.rules
      (goes_off rows_right 7 (rows_make W s table (admits_tables true own W x) h.rows))))

  -- it answers 7 with the first wrong row
  pub check_wrong : check_answer W s table ≡ 7 → (kept ≡ true) × FirstWrong W s table (check_row W s table)
  unfolding check_answer check_row some_of write_refusals
  check_wrong e =
      let p = passes_over write_refusals (admits true own W) (or_else (unless kept 6) (unless rows_right 7)) 7 (admitted write_refusals true own W refl refl refl refl) (λ h. true≢false (sym h.is)) e in
      let q = passes_over (6 ∷ []) (unless kept 6) (unless rows_right 7) 7 (link (6 ∷ []) kept 6 refl) (λ h. true≢false (sym h.is)) p.1 in
      (passed_last kept 6 (λ z. omega arith) q.0, subst (FirstWrong W s table) (sym (ap (λ (t : Bool). cond t (first_wrong W s table) 0) (eq-eqb (check_answer W s table) 7 e))) (first_read W s table (admits_tables true own W p.0) (some_wrong W s table (failed_last rows_right 7 (λ z. omega arith) q.1))))

  -- exactly if there is one, and nothing before is refused
  pub wrong_check : admits true own W ≡ 0 → kept ≡ true → (i : ℕ) → FirstWrong W s table i → (check_answer W s table ≡ 7) × (check_row W s table ≡ i)
  unfolding check_answer check_row
  wrong_check x k i f =
      let first = first_make W s table (admits_tables true own W x) i f in
      let e : check_answer W s table ≡ 7 =
      sym (runs_on (admits true own W) (or_else (unless kept 6) (unless rows_right 7)) x
      (goes_on kept 6 (unless rows_right 7) k
      (stops_last rows_right 7 (wrong_some W s table (let l = first.0 in let m = first.1 in omega arith))))) in
      (e, ap (λ (t : Bool). cond t (first_wrong W s table) 0) (eq-eqb (check_answer W s table) 7 e) ∙ first.1)

-- Check accepts what solve gives

pub check_solve : (W : Week) (order table : List ℕ) → solve_answer W order table ≡ 0 → check_answer W (solve_order W order table) (solve_table W order table) ≡ 0
unfolding row_lengths
check_solve W order table e =
    let s = solve_order W order table in
    let super = (solve_first W order table e).has in
    accepts_check W s (solve_table W order table)
    (subst (λ (t : Bool). admits true t W ≡ 0) (sym (both (eq-eqb (length s) (lots W) super.size) (eq-eqb _ _ (solve_long W order table e)))) (admits_tables true (row_lengths (lots W) W.numbers.a order table) W (solve_admits W order table e)))
    (record {
      super = super;
      rows = λ A set. let r = solve_rows W order table e A set in record { broken = λ b. (r.broken b).has; whole = r.whole };
    })
