-- What a Result tells as a number: 0 where it is Ok, and the number of its refusal, which is never 0.
-- Assumes nothing.
use mathlib.Core.Path.{◌≡◌, refl, sym, ◌∙◌, ap}
use native.Mathlib.Omega.{arith}
use Rattle.std.specs.Prelude.{Result, Ok, Err}
use Rattle.week.specs.declared.Refusal.{Refusal}
use Rattle.week.specs.declared.Refusal.TheVariants as V
use Rattle.week.specs.Refusal.{number, answer}

pub number_some : (r : Refusal) → number r ≡ 0 → ⊥
number_some V.Numbers e = absurd (omega arith)
number_some V.Lengths e = absurd (omega arith)
number_some V.Words e = absurd (omega arith)
number_some V.Ties e = absurd (omega arith)
number_some V.NoSolution e = absurd (omega arith)
number_some V.Order e = absurd (omega arith)
number_some V.Row e = absurd (omega arith)
number_some V.NoRepair e = absurd (omega arith)
number_some V.Sheet e = absurd (omega arith)
number_some V.Copy e = absurd (omega arith)
number_some V.Moves e = absurd (omega arith)
number_some V.Stale e = absurd (omega arith)
number_some V.Result e = absurd (omega arith)
number_some V.Full e = absurd (omega arith)
number_some V.Size e = absurd (omega arith)
number_some V.Check e = absurd (omega arith)
number_some V.Block e = absurd (omega arith)
number_some V.Filling e = absurd (omega arith)

number_one : (r : Refusal) → number r ≡ 1 → r ≡ V.Numbers
number_one V.Numbers e = refl
number_one V.Lengths e = absurd (omega arith)
number_one V.Words e = absurd (omega arith)
number_one V.Ties e = absurd (omega arith)
number_one V.NoSolution e = absurd (omega arith)
number_one V.Order e = absurd (omega arith)
number_one V.Row e = absurd (omega arith)
number_one V.NoRepair e = absurd (omega arith)
number_one V.Sheet e = absurd (omega arith)
number_one V.Copy e = absurd (omega arith)
number_one V.Moves e = absurd (omega arith)
number_one V.Stale e = absurd (omega arith)
number_one V.Result e = absurd (omega arith)
number_one V.Full e = absurd (omega arith)
number_one V.Size e = absurd (omega arith)
number_one V.Check e = absurd (omega arith)
number_one V.Block e = absurd (omega arith)
number_one V.Filling e = absurd (omega arith)

-- only the refusal of the numbers has the number 1
pub numbers_told : {A : Type 0} (r : Result A Refusal) → answer r ≡ 1 → r ≡ Err V.Numbers
numbers_told (Ok x) e = absurd (omega arith)
numbers_told (Err k) e = ap Err (number_one k e)

pub answered : {A : Type 0} {r : Result A Refusal} {x : A} → r ≡ Ok x → answer r ≡ 0
answered e = ap answer e

pub refused : {A : Type 0} {r : Result A Refusal} {k : Refusal} → r ≡ Err k → answer r ≡ number k
refused e = ap answer e

pub refused_some : {A : Type 0} {r : Result A Refusal} {k : Refusal} → r ≡ Err k → answer r ≡ 0 → ⊥
refused_some {k = k} e z = number_some k (sym (refused e) ∙ z)
