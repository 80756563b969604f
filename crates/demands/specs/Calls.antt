-- Demand 1: the refusals of each service, and what a refused call leaves.
-- Assumes nothing.
use Rattle.std.specs.Prelude.{◌≡◌, true, List, [], ◌∷◌, ℕ, eqb}
use Rattle.lex.specs.Every.{some_of}

-- an answer k: 0, or one of the refusals l
pub record Among (l : List ℕ) (k : ℕ) : Type 0 where
  pub is : some_of (eqb k) (0 ∷ l) ≡ true

-- a call answers k, 0 or one of the refusals l; refused, what it leaves or gives is `refused`
pub record Answered (l : List ℕ) (k : ℕ) {A : Type 0} (refused given : A) : Type 0 where
  pub numbered : Among l k
  pub unchanged : (k ≡ 0 → ⊥) → given ≡ refused

unfoldable pub solve_refusals : List ℕ
solve_refusals = 1 ∷ 2 ∷ 3 ∷ 4 ∷ 5 ∷ []

unfoldable pub check_refusals : List ℕ
check_refusals = 1 ∷ 2 ∷ 3 ∷ 4 ∷ 6 ∷ 7 ∷ []

unfoldable pub repair_refusals : List ℕ
repair_refusals = 1 ∷ 2 ∷ 3 ∷ 4 ∷ 6 ∷ 8 ∷ []

unfoldable pub row_refusals : List ℕ
row_refusals = 1 ∷ 2 ∷ []

unfoldable pub open_refusals : List ℕ
open_refusals = 1 ∷ 2 ∷ 3 ∷ 4 ∷ 6 ∷ []

unfoldable pub copy_refusals : List ℕ
copy_refusals = 1 ∷ 2 ∷ 3 ∷ 4 ∷ 9 ∷ []

unfoldable pub save_refusals : List ℕ
save_refusals = 1 ∷ 2 ∷ 3 ∷ 4 ∷ 9 ∷ 10 ∷ 11 ∷ 12 ∷ 13 ∷ 14 ∷ []

unfoldable pub write_refusals : List ℕ
write_refusals = 1 ∷ 2 ∷ 3 ∷ 4 ∷ []

unfoldable pub read_refusals : List ℕ
read_refusals = 1 ∷ 2 ∷ 3 ∷ 4 ∷ 15 ∷ 16 ∷ 17 ∷ 18 ∷ []
