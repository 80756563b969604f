-- What the C interface adds to the services: the six numbers come one by one, and a row is copied out.
-- Assumes nothing.
use Rattle.std.specs.Prelude.{◌≡◌, cond, List, ℕ, eqb, length}
use Rattle.week.specs.declared.Numbers.{Numbers}
use Rattle.week.specs.Refusal.{unless, or_else}
use Rattle.repair.specs.Service.{row_answer, row_part}

-- the six numbers as a service takes them
abbrev pub numbers : ℕ → ℕ → ℕ → ℕ → ℕ → ℕ → Numbers
numbers n a b alternative gap helper = record { n = n; a = a; b = b; alternative = alternative; gap = gap; helper = helper }

-- Row: the part goes into a buffer `out` of n bytes, else 2

unfoldable pub shown_answer : ℕ → ℕ → List ℕ → List ℕ → List ℕ → List ℕ → ℕ
shown_answer n a order table A out = or_else (row_answer n a order table A) (unless (eqb (length out) n) 2)

unfoldable pub shown_order : ℕ → ℕ → List ℕ → List ℕ → List ℕ → List ℕ → List ℕ
shown_order n a order table A out = cond (eqb (shown_answer n a order table A out) 0) (row_part n a order table A) out

-- the call answers k and leaves o in the buffer
pub record Shown (n a : ℕ) (order table A out : List ℕ) (k : ℕ) (o : List ℕ) : Type 0 where
  pub answer : k ≡ shown_answer n a order table A out
  pub buffer : o ≡ shown_order n a order table A out
