-- A service's answer as a chain of checks: the number of the first check that refuses, 0 where none does.
-- Assumes nothing.
use Rattle.std.specs.Prelude.{Bool, cond, ℕ, eqb, Result, Ok, Err}
use Rattle.week.specs.declared.Refusal.{Refusal}
use Rattle.week.specs.declared.Refusal.TheVariants as V

-- refusal k, unless the check passes
abbrev pub unless : Bool → ℕ → ℕ
unless ok k = cond ok 0 k

-- the first answer, or the second where the first is no refusal
abbrev pub or_else : ℕ → ℕ → ℕ
or_else a b = cond (eqb a 0) b a

-- the number of a refusal
abbrev pub number : Refusal → ℕ
number V.Numbers = 1
number V.Lengths = 2
number V.Words = 3
number V.Ties = 4
number V.NoSolution = 5
number V.Order = 6
number V.Row = 7
number V.NoRepair = 8
number V.Sheet = 9
number V.Copy = 10
number V.Moves = 11
number V.Stale = 12
number V.Result = 13
number V.Full = 14
number V.Size = 15
number V.Check = 16
number V.Block = 17
number V.Filling = 18

-- what a service answers: 0, or the number of its refusal
abbrev pub answer : {A : Type 0} → Result A Refusal → ℕ
answer (Ok _) = 0
answer (Err r) = number r
