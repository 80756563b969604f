-- What the service check means: which rows are right, the first that is wrong, and its answers, for every input.
-- Assumes nothing.
use Rattle.std.specs.Prelude.{◌≡◌, Bool, true, not, cond, List, [], ℕ, ◌<◌, eqb, get_or, Option, Some, None, Result, Ok, Err}
use Rattle.lex.specs.Every.{every}
use Rattle.lex.specs.Lists.{same}
use Rattle.lex.specs.Scan.{scan_from}
use Rattle.week.specs.Refusal.{unless, or_else, number}
use Rattle.week.specs.Rules.{keeps}
use Rattle.week.specs.Tables.{Week, lots, pair_rules, admits}
use Rattle.repair.specs.Break.{row_count, row_at}
use Rattle.repair.specs.Repair.{case, is_repair}
use Rattle.repair.specs.Service.{row_lengths}
use Rattle.robust.specs.Super.{row_sets, is_break}
use Rattle.solve.specs.declared.Fault.{Fault}
use Rattle.solve.specs.declared.Fault.TheVariants.{Refused, Row}

-- row r is right for the set in order s: some repair of a break, and the order itself where the set is none
unfoldable pub right : Week → List ℕ → List ℕ → List ℕ → Bool
right W s A r = cond (is_break W s A) (is_repair (pair_rules W) (case W.numbers W.give s A) r) (same r s)

-- row i of the table is right
unfoldable pub right_at : Week → List ℕ → List ℕ → ℕ → Bool
right_at W s table i = right W s (get_or (row_sets W) i []) (row_at (lots W) table i)

unfoldable pub wrong_at : Week → List ℕ → List ℕ → ℕ → Bool
wrong_at W s table i = not (right_at W s table i)

-- how many rows a week's repair table has
abbrev pub rows_of : Week → ℕ
rows_of W = row_count (lots W) W.numbers.a

-- the first wrong row, and the number of rows where none is wrong
unfoldable pub first_wrong : Week → List ℕ → List ℕ → ℕ
first_wrong W s table = scan_from (rows_of W) (wrong_at W s table) 0

unfoldable pub check_answer : Week → List ℕ → List ℕ → ℕ
check_answer W s table =
    or_else (admits true (row_lengths (lots W) W.numbers.a s table) W)
    (or_else (unless (keeps (pair_rules W) s) 6)
    (unless (every (right_at W s table) (rows_of W)) 7))

-- the row number that comes with the answer: 0 but for 7
unfoldable pub check_row : Week → List ℕ → List ℕ → ℕ
check_row W s table = cond (eqb (check_answer W s table) 7) (first_wrong W s table) 0

-- the service answers k with row number i
pub record Judged (W : Week) (s table : List ℕ) (k i : ℕ) : Type 0 where
  pub answer : k ≡ check_answer W s table
  pub row : i ≡ check_row W s table

-- What the code holds

-- the first wrong row, or none
abbrev pub FirstWrong : Week → List ℕ → List ℕ → Option ℕ → Type 0
FirstWrong W s table None = first_wrong W s table ≡ rows_of W
FirstWrong W s table (Some i) = (i < rows_of W) × (first_wrong W s table ≡ i)

-- the answer of check: 0, or the number of its refusal
abbrev pub judged_answer : {A : Type 0} → Result A Fault → ℕ
judged_answer (Ok _) = 0
judged_answer (Err (Refused r)) = number r
judged_answer (Err (Row i)) = 7

-- and the row number that comes with it
abbrev pub judged_row : {A : Type 0} → Result A Fault → ℕ
judged_row (Ok _) = 0
judged_row (Err (Refused r)) = 0
judged_row (Err (Row i)) = i

-- 7 comes from a row alone, with its number
abbrev pub RowTold : {A : Type 0} → Result A Fault → Type 0
RowTold (Ok _) = Unit {0}
RowTold (Err (Refused r)) = number r ≡ 7 → ⊥
RowTold (Err (Row i)) = Unit {0}
