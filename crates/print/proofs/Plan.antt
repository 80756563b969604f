-- From an order, its table and the services' answers to the text of a file.
-- Assumes nothing.
use mathlib.Core.Path.{◌≡◌, refl, sym, ◌∙◌, ap}
use mathlib.Core.Bool.{Bool, true, false, cond}
use mathlib.Core.List.{List, [], ◌++◌, flat_map}
use mathlib.Core.Option.{Option, none, some}
use Prim.Native.Nat.{ℕ, ◌*◌}
use native.Mathlib.Omega.{arith}
use lib.ListN.{length, get_or}
use borrow.Author.Tests.{eq-eqb}
use Rattle.lex.specs.First.{is_found, or_old}
use Rattle.lex.proofs.Every.{both}
use Rattle.week.specs.Refusal.{unless}
use Rattle.week.specs.Tables.{Week, lots, refusal, admits}
use Rattle.week.proofs.Tables.{runs_on}
use Rattle.repair.specs.Break.{row_count}
use Rattle.repair.specs.Service.{row_lengths}
use Rattle.robust.specs.Super.{row_sets, first_super, row_of, table_of}
use Rattle.solve.specs.Service.{solve_answer, solve_order, solve_table, Solved}
use Rattle.solve.proofs.Service.{super_long}
use Rattle.robust.proofs.Table.{row_size, row_at_lem, rows_size}
use Rattle.print.specs.Text.{plan_line, lost_line, refused_line, row_line, plan_lines}
use Rattle.print.specs.Put.{table_line, table_text, week_text}
use Rattle.print.proofs.Put.{pieces_cong, pieces_flat}

-- The lines of a table are those of its rows
pub plan_lines_lem : (W : Week) (s : List ℕ) → refusal W ≡ 0 → length s ≡ lots W → table_text (lots W) W.numbers.a s (table_of W s) ≡ plan_lines W s
unfolding table_text plan_lines table_line row_line table_of row_count
plan_lines_lem W s fine size =
    ap (λ (t : List ℕ). plan_line s ++ t)
    (pieces_cong (table_line (lots W) W.numbers.a (flat_map (row_of W s) (row_sets W))) (λ i. row_line W s (get_or (row_sets W) i [])) (length (row_sets W))
    (λ i l. ap (lost_line (get_or (row_sets W) i [])) (row_at_lem (row_of W s) (lots W) (λ A. row_size W s A fine size) (row_sets W) i l))
    ∙ pieces_flat (row_line W s) [] (row_sets W))

-- What solve answered, of a week that is accepted and buffers of the right lengths

module _ (W : Week) (order table : List ℕ) (fine : refusal W ≡ 0) (size : length order ≡ lots W) (area : length table ≡ row_count (lots W) W.numbers.a * lots W) where
  admitted : admits true (row_lengths (lots W) W.numbers.a order table) W ≡ 0
  unfolding row_lengths
  admitted = ap (λ (t : Bool). admits true t W) (both (eq-eqb _ _ size) (eq-eqb _ _ area)) ∙ fine

  found_or_five : solve_answer W order table ≡ unless (is_found (first_super W)) 5
  unfolding solve_answer
  found_or_five = sym (runs_on (admits true (row_lengths (lots W) W.numbers.a order table) W) _ admitted refl)

  module _ {k : ℕ} {o t : List ℕ} (solved : Solved W order table k o t) where
    answer : k ≡ unless (is_found (first_super W)) 5
    answer = solved.answer ∙ found_or_five

    -- refused: no super solution
    pub text_none : (k ≡ 0 → ⊥) → week_text W ≡ refused_line k
    unfolding week_text
    text_none h = rw answer (go (is_found (first_super W)) answer)
      where
        go : (b : Bool) → k ≡ unless b 5 → cond b (plan_lines W (or_old (first_super W) [])) (refused_line 5) ≡ refused_line (unless b 5)
        go true e = absurd (h e)
        go false e = refl

    -- done: what the buffers hold
    module _ (done : k ≡ 0) where
      the_order : o ≡ or_old (first_super W) order
      unfolding solve_order
      the_order = solved.solution ∙ rw (eq-eqb (solve_answer W order table) 0 (sym solved.answer ∙ done))

      the_table : t ≡ table_of W o
      unfolding solve_table
      the_table = solved.repairs ∙ (rw (eq-eqb (solve_answer W order table) 0 (sym solved.answer ∙ done)) (ap (table_of W) (sym the_order)))

      pub order_size : length o ≡ lots W
      order_size = ap length the_order ∙ go (first_super W) refl
        where
          go : (a : Option (List ℕ)) → first_super W ≡ a → length (or_old a order) ≡ lots W
          go none e = size
          go (some r) e = super_long W r e

      pub table_size : length t ≡ row_count (lots W) W.numbers.a * lots W
      unfolding table_of row_count
      table_size = ap length the_table ∙ rows_size (row_of W o) (lots W) (λ A. row_size W o A fine order_size) (row_sets W)

      pub text_some : week_text W ≡ table_text (lots W) W.numbers.a o t
      unfolding week_text
      text_some = go (first_super W) the_order (sym answer ∙ done) ∙ (sym (plan_lines_lem W o fine order_size) ∙ ap (table_text (lots W) W.numbers.a o) (sym the_table))
        where
          go : (a : Option (List ℕ)) → o ≡ or_old a order → unless (is_found a) 5 ≡ 0 → cond (is_found a) (plan_lines W (or_old a [])) (refused_line 5) ≡ plan_lines W o
          go none e f = absurd (omega arith)
          go (some r) e f = ap (plan_lines W) (sym e)
