-- What the service solve means: its refusals and what it leaves in the two buffers, for every input.
-- Assumes nothing.
use Rattle.std.specs.Prelude.{◌≡◌, true, cond, List, ℕ, eqb}
use Rattle.lex.specs.First.{is_found, or_old}
use Rattle.week.specs.Refusal.{unless, or_else}
use Rattle.week.specs.Tables.{Week, lots, admits}
use Rattle.repair.specs.Service.{row_lengths}
use Rattle.robust.specs.Super.{first_super, table_of}

unfoldable pub solve_answer : Week → List ℕ → List ℕ → ℕ
solve_answer W order table =
    or_else (admits true (row_lengths (lots W) W.numbers.a order table) W)
    (unless (is_found (first_super W)) 5)

-- the order's buffer afterwards
unfoldable pub solve_order : Week → List ℕ → List ℕ → List ℕ
solve_order W order table = cond (eqb (solve_answer W order table) 0) (or_old (first_super W) order) order

-- the table's buffer afterwards
unfoldable pub solve_table : Week → List ℕ → List ℕ → List ℕ
solve_table W order table = cond (eqb (solve_answer W order table) 0) (table_of W (or_old (first_super W) order)) table

-- the service answers k and leaves o and t in the buffers
pub record Solved (W : Week) (order table : List ℕ) (k : ℕ) (o t : List ℕ) : Type 0 where
  pub answer : k ≡ solve_answer W order table
  pub solution : o ≡ solve_order W order table
  pub repairs : t ≡ solve_table W order table
