-- Breaks: the sets of lots that can be lost, in the order of a repair table's rows.
-- A set of lots is the ascending list of its lots. Assumes nothing.
use Rattle.std.specs.Prelude.{Bool, cond, List, [], ◌∷◌, ◌++◌, map, ℕ, ◌+◌, ◌-◌, ◌*◌, ◌≤◌, ◌<◌, ltb, leb, length, get_or, take, drop}
use Rattle.lex.specs.Every.{all, every, every_of}
use Rattle.lex.specs.Lists.{same}
use Rattle.week.specs.Rules.{bit_of}
use Rattle.pairs.specs.Pairs.{lots_from, pairs, place}

unfoldable pub single : ℕ → List ℕ
single p = p ∷ []

unfoldable pub singles : ℕ → List (List ℕ)
singles n = map single (lots_from 0 n)

-- the sets of 1 to a of n lots, a at most 2: single lots ascending, then pairs (0,1), (0,2) and so on
unfoldable pub lost_sets : ℕ → ℕ → List (List ℕ)
lost_sets n a = cond (ltb 0 a) (singles n) [] ++ cond (ltb 1 a) (pairs n) []

-- each lot of the set stands, in order s, in a slot of its loss word
unfoldable pub breaks : List ℕ → List ℕ → List ℕ → Bool
breaks loss s lost = every_of (λ p. bit_of (get_or loss p 0) (get_or s p 0)) lost

-- Lost lots as they are handed in: `least` to `most` of them, each below n and below the next

unfoldable pub lot_below : ℕ → List ℕ → ℕ → Bool
lot_below n A i = ltb (get_or A i 0) n

unfoldable pub lot_ascends : List ℕ → ℕ → Bool
lot_ascends A i = ltb (get_or A i 0) (get_or A (i + 1) 0)

abbrev pub lost_tests : ℕ → ℕ → ℕ → List ℕ → List Bool
lost_tests n least most A =
    leb least (length A)
    ∷ leb (length A) most
    ∷ every (lot_below n A) (length A)
    ∷ every (lot_ascends A) (length A - 1)
    ∷ []

unfoldable pub lost_ok : ℕ → ℕ → ℕ → List ℕ → Bool
lost_ok n least most A = all (lost_tests n least most A)

-- one lot, or two ascending ones
pub record LostList (A : List ℕ) : Type 0 where
  pub some : 1 ≤ length A
  pub few : length A ≤ 2
  pub ascends : 1 < length A → get_or A 0 0 < get_or A 1 0

-- The rows of a repair table

-- the row that stands for a set: its place among all of them; rows count from 0
unfoldable pub row_number : ℕ → List ℕ → ℕ
row_number n A = place (same A) (lost_sets n 2)

unfoldable pub row_count : ℕ → ℕ → ℕ
row_count n a = length (lost_sets n a)

-- row i of a table of n bytes a row
unfoldable pub row_at : ℕ → List ℕ → ℕ → List ℕ
row_at n table i = take n (drop (i * n) table)
