-- Pairs of lots and their numbers: (0,1), (0,2) and so on. The rows of a repair table and the words of a block file go by them.
-- A pair is the ascending list of its two lots. Assumes nothing.
use Rattle.std.specs.Prelude.{Bool, cond, ℕ, zero, suc, ◌-◌, get_or}
use mathlib.Core.List.{List, [], ◌∷◌, map, flat_map}
use Rattle.lex.specs.Lists.{same}

-- the k lots from p on
unfoldable pub lots_from : ℕ → ℕ → List ℕ
lots_from p zero = []
lots_from p (suc k) = p ∷ lots_from (suc p) k

unfoldable pub pair : ℕ → ℕ → List ℕ
pair p q = p ∷ q ∷ []

-- lot p with each lot after it
unfoldable pub pairs_of : ℕ → ℕ → List (List ℕ)
pairs_of n p = map (pair p) (lots_from (suc p) (n - suc p))

-- the pairs of n lots
unfoldable pub pairs : ℕ → List (List ℕ)
pairs n = flat_map (pairs_of n) (lots_from 0 n)

-- pair r of n lots; empty where there is none
unfoldable pub pair_at : ℕ → ℕ → List ℕ
pair_at n r = get_or (pairs n) r []

-- the two lots of a pair
abbrev pub low : List ℕ → ℕ
low A = get_or A 0 0

abbrev pub high : List ℕ → ℕ
high A = get_or A 1 0

-- the number of the first member that passes f, counted from 0
unfoldable pub place : (List ℕ → Bool) → List (List ℕ) → ℕ
place f [] = 0
place f (A ∷ l) = let r = suc (place f l) in cond (f A) 0 r

-- the number of the pair p < q of n lots: its place among them
unfoldable pub pair_number : ℕ → ℕ → ℕ → ℕ
pair_number n p q = place (same (pair p q)) (pairs n)
