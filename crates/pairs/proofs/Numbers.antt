-- Pairs and their numbers, both ways and by a formula: checked by computation for every number of lots that a week may have.
-- Assumes nothing.
use mathlib.Core.Path.{◌≡◌, refl, ◌∙◌, ap}
use mathlib.Core.Bool.{Bool, true}
use mathlib.Core.List.{List, [], ◌∷◌, flat_map}
use Prim.Native.Nat.{ℕ, ◌+◌, ◌-◌, ◌*◌, ◌/◌, ◌≤◌, ◌<◌}
use native.Mathlib.Omega.{arith}
use lib.Dec.{eqb, ltb}
use lib.ListN.{length}
use borrow.Author.Tests.{eqb-true, ltb-true}
use Rattle.lex.specs.Every.{all, Each, every}
use Rattle.lex.specs.Lists.{same}
use Rattle.lex.proofs.Every.{each, every_at}
use Rattle.lex.proofs.Lists.{same_eq}
use Rattle.pairs.specs.Pairs.{lots_from, pair, pairs_of, pairs, pair_at, low, high, place, pair_number}

-- how many pairs n lots make
abbrev pub pair_count : ℕ → ℕ
pair_count n = n * (n - 1) / 2

-- the number of the pair p < q: the pairs of the lots before p, and those of p before q
abbrev pub pair_row : ℕ → ℕ → ℕ → ℕ
pair_row n p q = p * (n + n - p - 1) / 2 + (q - p - 1)

-- of each pair p < q: its number is that of the formula, and the pair with that number is it
abbrev number_tests : ℕ → ℕ → ℕ → List Bool
number_tests n q p =
    eqb (pair_number n p q) (pair_row n p q)
    ∷ ltb (pair_row n p q) (pair_count n)
    ∷ same (pair_at n (pair_row n p q)) (pair p q)
    ∷ []

numbered : ℕ → ℕ → ℕ → Bool
numbered n q p = all (number_tests n q p)

-- of each number: the pair with it is one, and has it
abbrev pair_tests : ℕ → ℕ → List Bool
pair_tests n r =
    ltb (low (pair_at n r)) (high (pair_at n r))
    ∷ ltb (high (pair_at n r)) n
    ∷ same (pair_at n r) (pair (low (pair_at n r)) (high (pair_at n r)))
    ∷ eqb (pair_number n (low (pair_at n r)) (high (pair_at n r))) r
    ∷ []

paired : ℕ → ℕ → Bool
paired n r = all (pair_tests n r)

lot_numbered : ℕ → ℕ → Bool
lot_numbered n q = every (numbered n q) q

abbrev well_tests : ℕ → List Bool
well_tests n =
    eqb (length (pairs n)) (pair_count n)
    ∷ eqb (pair_count n * 2) (n * (n - 1))
    ∷ every (lot_numbered n) n
    ∷ every (paired n) (pair_count n)
    ∷ []

well : ℕ → Bool
well n = all (well_tests n)

all_well : every well 25 ≡ true
unfolding every flat_map same lots_from pair pairs_of pairs pair_at place pair_number numbered paired lot_numbered well
all_well = refl

module _ (n : ℕ) (few : n ≤ 24) where
  tests : Each (well_tests n)
  unfolding well
  tests = each (well_tests n) (every_at well 25 n all_well (omega arith))

  pub count_pairs : length (pairs n) ≡ pair_count n
  count_pairs = eqb-true (length (pairs n)) (pair_count n) tests.0

  pub count_twice : pair_count n * 2 ≡ n * (n - 1)
  count_twice = eqb-true (pair_count n * 2) (n * (n - 1)) tests.1.0

  -- what holds of the number of a pair
  pub record Numbered (p q : ℕ) : Type 0 where
    pub formula : pair_number n p q ≡ pair_row n p q
    pub below : pair_number n p q < pair_count n
    pub back : pair_at n (pair_number n p q) ≡ pair p q

  pub number_of : (p q : ℕ) → p < q → q < n → Numbered p q
  unfolding lot_numbered numbered
  number_of p q l m =
      let t = each (number_tests n q p) (every_at (numbered n q) q p (every_at (lot_numbered n) n q tests.1.1.0 m) l) in
      let e = eqb-true (pair_number n p q) (pair_row n p q) t.0 in
      record {
        formula = e;
        below = let b = ltb-true (pair_row n p q) (pair_count n) t.1.0 in omega arith;
        back = ap (pair_at n) e ∙ same_eq (pair_at n (pair_row n p q)) (pair p q) t.1.1.0;
      }

  -- and of the pair with a number
  pub record Paired (r : ℕ) : Type 0 where
    pub order : low (pair_at n r) < high (pair_at n r)
    pub inside : high (pair_at n r) < n
    pub lots : pair_at n r ≡ pair (low (pair_at n r)) (high (pair_at n r))
    pub number : pair_number n (low (pair_at n r)) (high (pair_at n r)) ≡ r

  pub pair_of : (r : ℕ) → r < pair_count n → Paired r
  unfolding paired
  pair_of r l =
      let t = each (pair_tests n r) (every_at (paired n) (pair_count n) r tests.1.1.1.0 l) in
      record {
        order = ltb-true (low (pair_at n r)) (high (pair_at n r)) t.0;
        inside = ltb-true (high (pair_at n r)) n t.1.0;
        lots = same_eq (pair_at n r) (pair (low (pair_at n r)) (high (pair_at n r))) t.1.1.0;
        number = eqb-true (pair_number n (low (pair_at n r)) (high (pair_at n r))) r t.1.1.1.0;
      }
