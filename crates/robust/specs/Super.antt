-- Super solutions: orders in which each break has a repair; the first of them, and its repair table.
-- Assumes nothing.
use Rattle.std.specs.Prelude.{Bool, ◌&&◌, cond, ℕ, eqb, length}
use mathlib.Core.List.{List, map, flat_map}
use Rattle.std.proofs.Math.Option.{Option}
use Rattle.lex.specs.Every.{imp, every_of}
use Rattle.lex.specs.First.{first, is_found, or_old}
use Rattle.week.specs.Rules.{keeps}
use Rattle.week.specs.Tables.{Week, lots, pair_rules}
use Rattle.repair.specs.Break.{lost_sets, breaks}
use Rattle.repair.specs.Repair.{case, repair_of}

-- the sets of lots that the rows of a week's repair table stand for
abbrev pub row_sets : Week → List (List ℕ)
row_sets W = lost_sets (lots W) W.numbers.a

-- the set is a break of order s
unfoldable pub is_break : Week → List ℕ → List ℕ → Bool
is_break W s A = breaks W.loss s A

-- the repair chosen for the set in order s
unfoldable pub repair_for : Week → List ℕ → List ℕ → Option (List ℕ)
repair_for W s A = repair_of (pair_rules W) (case W.numbers W.give s A)

-- the set is no break, or has a repair
unfoldable pub safe : Week → List ℕ → List ℕ → Bool
safe W s A = imp (is_break W s A) (is_found (repair_for W s A))

-- each break has a repair
unfoldable pub robust : Week → List ℕ → Bool
robust W s = every_of (safe W s) (row_sets W)

unfoldable pub is_super : Week → List ℕ → Bool
is_super W s = eqb (length s) (lots W) && (keeps (pair_rules W) s && robust W s)

-- the first super solution
unfoldable pub first_super : Week → Option (List ℕ)
first_super W = first (keeps (pair_rules W)) (robust W) 16 (lots W)

-- the row of a set: the repair chosen for a break, and the order itself where the set is none
unfoldable pub row_of : Week → List ℕ → List ℕ → List ℕ
row_of W s A = cond (is_break W s A) (or_old (repair_for W s A) s) s

unfoldable pub rows : Week → List ℕ → List (List ℕ)
rows W s = map (row_of W s) (row_sets W)

-- the repair table: the rows one behind the other
unfoldable pub table_of : Week → List ℕ → List ℕ
table_of W s = flat_map (row_of W s) (row_sets W)
