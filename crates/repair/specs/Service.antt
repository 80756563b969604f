-- What the services repair and row mean: their refusals and what they hand back, for every input.
-- Assumes nothing.
use Rattle.std.specs.Prelude.{◌≡◌, Bool, ◌&&◌, cond, List, [], ℕ, ◌*◌, eqb, leb, length}
use Rattle.lex.specs.First.{is_found, or_old}
use Rattle.week.specs.Refusal.{unless, or_else}
use Rattle.week.specs.Rules.{keeps}
use Rattle.week.specs.Tables.{Week, lots, pair_rules, admits}
use Rattle.repair.specs.Break.{lost_ok, row_number, row_count, row_at}
use Rattle.repair.specs.Repair.{case, repair_of}

-- Repair: order s, lost lots A, the buffer `out` for the answer

unfoldable pub repair_lengths : ℕ → List ℕ → List ℕ → Bool
repair_lengths n s out = eqb (length s) n && eqb (length out) n

unfoldable pub repair_answer : Week → List ℕ → List ℕ → List ℕ → ℕ
repair_answer W s A out =
    or_else (admits (lost_ok (lots W) 1 2 A) (repair_lengths (lots W) s out) W)
    (or_else (unless (keeps (pair_rules W) s) 6)
    (unless (is_found (repair_of (pair_rules W) (case W.numbers W.give s A))) 8))

-- the buffer afterwards
unfoldable pub repair_out : Week → List ℕ → List ℕ → List ℕ → List ℕ
repair_out W s A out = cond (eqb (repair_answer W s A out) 0) (or_old (repair_of (pair_rules W) (case W.numbers W.give s A)) out) out

-- the service answers k and leaves o in the buffer
pub record Repaired (W : Week) (s A out : List ℕ) (k : ℕ) (o : List ℕ) : Type 0 where
  pub answer : k ≡ repair_answer W s A out
  pub buffer : o ≡ repair_out W s A out

-- Row: n lots, at most a lost, an order, its table, the lost lots

unfoldable pub row_numbers : ℕ → ℕ → Bool
row_numbers n a = leb 1 n && (leb n 24 && leb a 2)

unfoldable pub row_lengths : ℕ → ℕ → List ℕ → List ℕ → Bool
row_lengths n a order table = eqb (length order) n && eqb (length table) (row_count n a * n)

unfoldable pub row_answer : ℕ → ℕ → List ℕ → List ℕ → List ℕ → ℕ
row_answer n a order table A = or_else (unless (row_numbers n a && lost_ok n 0 a A) 1) (unless (row_lengths n a order table) 2)

-- the part that is shown: the order, or the table's row for the set; empty where refused
unfoldable pub row_part : ℕ → ℕ → List ℕ → List ℕ → List ℕ → List ℕ
row_part n a order table A = cond (eqb (row_answer n a order table A) 0) (cond (eqb (length A) 0) order (row_at n table (row_number n A))) []
