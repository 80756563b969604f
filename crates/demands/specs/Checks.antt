-- Demand 1: which number comes exactly when. The checks of each service stand here in document 01's order, one to a line: the number of a
-- refusal, and the test that passes where it is not given. The answer is the number of the first check that fails.
-- Assumes nothing.
use Rattle.std.specs.Prelude.{◌≡◌, Bool, true, false, ◌&&◌, cond, ◌↔◌, List, [], ◌∷◌, ◌++◌, ℕ, zero, suc, ◌+◌, ◌*◌, ◌/◌, ◌<◌, eqb, ltb, leb, length, get_or, take, drop}
use Rattle.lex.specs.Every.{every}
use Rattle.lex.specs.First.{is_found}
use Rattle.week.specs.Rules.{keeps}
use Rattle.week.specs.Tables.{Week, lots, pair_rules, numbers_ok, lengths_ok, words_ok, ties_ok}
use Rattle.repair.specs.Break.{lost_ok}
use Rattle.repair.specs.Repair.{case, repair_of}
use Rattle.repair.specs.Service.{repair_lengths, row_numbers, row_lengths}
use Rattle.robust.specs.Super.{first_super}
use Rattle.solve.specs.Judging.{right_at, rows_of}
use Rattle.sheet.specs.declared.Sheet.{Sheet}
use Rattle.sheet.specs.Moves.{moves_of, moves_ok, fresh}
use Rattle.sheet.specs.Sheet.{sound, result_ok}
use Rattle.block.specs.Fnv.{fnv}
use Rattle.block.specs.File.{blocks}
use Rattle.block.specs.Reading.{week_in, buffers_ok, whole_blocks, holds4, filling_ok}

pub record Check : Type 0 where
  pub number : ℕ
  pub passes : Bool

abbrev pub check : ℕ → Bool → Check
check k ok = record { number = k; passes = ok }

-- the number of the first check that fails, 0 where all pass
unfoldable pub verdict : List Check → ℕ
verdict [] = 0
verdict (x ∷ l) = let k = verdict l in cond x.passes k x.number

-- The same in plain words

abbrev pub check_at : List Check → ℕ → Check
check_at l i = get_or l i (check 0 true)

abbrev pub AllPass : List Check → Type 0
AllPass l = (i : ℕ) → i < length l → (check_at l i).passes ≡ true

-- a check with number k fails, and all before it pass
pub record Refuses (l : List Check) (k : ℕ) : Type 0 where
  pub place : ℕ
  pub inside : place < length l
  pub earlier : (i : ℕ) → i < place → (check_at l i).passes ≡ true
  pub fails : (check_at l place).passes ≡ false
  pub number : (check_at l place).number ≡ k

-- the answer k comes from the checks l: it is a refusal j exactly if they refuse with j, and 0 exactly if all pass
pub record Exactly (l : List Check) (k : ℕ) : Type 0 where
  pub refused : (j : ℕ) → (j ≡ 0 → ⊥) → (k ≡ j) ↔ Refuses l j
  pub done : (k ≡ 0) ↔ AllPass l

-- 1 to 4 of a service, which may have tests of its own of kind 1 (`one`) and of kind 2 (`two`)
unfoldable pub week_checks : Bool → Bool → Week → List Check
week_checks one two W =
    check 1 (one && numbers_ok W.numbers)
    ∷ check 2 (two && lengths_ok (lots W) W.domain W.loss W.give W.ties)
    ∷ check 3 (words_ok (lots W) W.domain W.loss W.give)
    ∷ check 4 (ties_ok (pair_rules W))
    ∷ []

-- Planning

unfoldable pub solve_checks : Week → List ℕ → List ℕ → List Check
solve_checks W order table =
    week_checks true (row_lengths (lots W) W.numbers.a order table) W
    ++ check 5 (is_found (first_super W))
    ∷ []

unfoldable pub check_checks : Week → List ℕ → List ℕ → List Check
check_checks W s table =
    week_checks true (row_lengths (lots W) W.numbers.a s table) W
    ++ check 6 (keeps (pair_rules W) s)
    ∷ check 7 (every (right_at W s table) (rows_of W))
    ∷ []

unfoldable pub repair_checks : Week → List ℕ → List ℕ → List ℕ → List Check
repair_checks W s A out =
    week_checks (lost_ok (lots W) 1 2 A) (repair_lengths (lots W) s out) W
    ++ check 6 (keeps (pair_rules W) s)
    ∷ check 8 (is_found (repair_of (pair_rules W) (case W.numbers W.give s A)))
    ∷ []

unfoldable pub row_checks : ℕ → ℕ → List ℕ → List ℕ → List ℕ → List Check
row_checks n a order table A =
    check 1 (row_numbers n a && lost_ok n 0 a A)
    ∷ check 2 (row_lengths n a order table)
    ∷ []

-- The sheet

unfoldable pub open_checks : Week → List ℕ → List Check
open_checks W o =
    week_checks true (eqb (length o) (lots W)) W
    ++ check 6 (keeps (pair_rules W) o)
    ∷ []

unfoldable pub copy_checks : Week → Sheet → List Check
copy_checks W S =
    week_checks true true W
    ++ check 9 (sound (pair_rules W) S)
    ∷ []

unfoldable pub save_checks : Week → Sheet → ℕ → List ℕ → List Check
save_checks W S c m =
    week_checks true true W
    ++ check 9 (sound (pair_rules W) S)
    ∷ check 10 (leb c S.saves)
    ∷ check 11 (moves_ok (lots W) W.domain m)
    ∷ check 12 (fresh (pair_rules W) S.marks c (moves_of m))
    ∷ check 13 (result_ok (pair_rules W) S.order m)
    ∷ check 14 (ltb S.saves 65535)
    ∷ []

-- The block file

unfoldable pub write_checks : Week → List ℕ → List Check
write_checks W F = week_checks true (eqb (length F) (blocks (lots W) * 512)) W

-- the first m blocks, of each 16 before 17
unfoldable pub block_checks : List ℕ → ℕ → List Check
block_checks F zero = []
block_checks F (suc m) =
    block_checks F m
    ++ check 16 (holds4 F (m * 512 + 508) (fnv (take 508 (drop (m * 512) F))))
    ∷ check 17 (holds4 F (m * 512) m)
    ∷ []

-- what the blocks hold
unfoldable pub held_checks : Week → List ℕ → List Check
held_checks W F =
    check 1 (numbers_ok W.numbers)
    ∷ check 15 (eqb (length F) (blocks (lots W) * 512))
    ∷ check 18 (filling_ok F (lots W))
    ∷ check 3 (words_ok (lots W) W.domain W.loss W.give)
    ∷ check 4 (ties_ok (pair_rules W))
    ∷ []

-- 15 is asked twice: of the length at first, and of the length that the numbers need
unfoldable pub read_checks : List ℕ → List ℕ → List ℕ → List ℕ → List ℕ → List Check
read_checks F d l g t =
    check 2 (buffers_ok (length d) (length l) (length g) (length t))
    ∷ check 15 (whole_blocks F)
    ∷ block_checks F (length F / 512)
    ++ held_checks (week_in F) F
