-- The numbers of a repair table's rows: the single lots by their own numbers, and behind them the pairs by theirs.
-- Assumes nothing.
use mathlib.Core.Path.{◌≡◌, refl, ◌∙◌, ap}
use mathlib.Core.Bool.{Bool, ◌&&◌, cond, and-false}
use mathlib.Core.List.{List, [], ◌++◌, map}
use Prim.Native.Nat.{ℕ, zero, suc, ◌+◌, ◌-◌, ◌*◌, ◌/◌, ◌≤◌, ◌<◌}
use native.Mathlib.Omega.{arith}
use native.Mathlib.Decide.{dec_lt}
use lib.Dec.{eqb}
use lib.ListN.{length, length-append, length-map}
use borrow.Author.Tests.{eq-eqb, ne_eqb}
use Rattle.lex.specs.Lists.{same}
use Rattle.pairs.specs.Pairs.{lots_from, pair, pairs, place, pair_number}
use Rattle.pairs.proofs.Pairs.{length_lots}
use Rattle.pairs.proofs.Numbers.{count_pairs, number_of}
use Rattle.repair.specs.Break.{single, singles, lost_sets, row_number, row_count}

-- a single lot's place among the single lots from s on
place_single : (p s k : ℕ) (t : List (List ℕ)) → s ≤ p → p < s + k → place (same (single p)) (map single (lots_from s k) ++ t) ≡ p - s
unfolding lots_from place same single
place_single p s zero t h l = absurd (omega arith)
place_single p s (suc k) t h l = elim (dec_lt s p) [
  | yes m ↦
      let r = place_single p (suc s) k t (omega arith) (omega arith) in
      ap (λ (b : Bool). cond (b && same [] []) 0 (suc (place (same (single p)) (map single (lots_from (suc s) k) ++ t)))) (ne_eqb p s (λ z. omega arith)) ∙ (ap suc r ∙ omega arith)
  | no m ↦ ap (λ (b : Bool). cond (b && same [] []) 0 (suc (place (same (single p)) (map single (lots_from (suc s) k) ++ t)))) (eq-eqb p s (omega arith)) ∙ omega arith
]

-- a pair is none of them
place_pair : (p q s k : ℕ) (t : List (List ℕ)) → place (same (pair p q)) (map single (lots_from s k) ++ t) ≡ k + place (same (pair p q)) t
unfolding lots_from place same single pair
place_pair p q s zero t = omega arith
place_pair p q s (suc k) t = rw (and-false (eqb p s)) (ap suc (place_pair p q (suc s) k t) ∙ omega arith)

module _ (n : ℕ) where
  pub sets_two : lost_sets n 2 ≡ singles n ++ pairs n
  unfolding lost_sets
  sets_two = refl

  pub length_singles : length (singles n) ≡ n
  unfolding singles
  length_singles = length-map (lots_from 0 n) single ∙ length_lots 0 n

  pub number_single : (p : ℕ) → p < n → row_number n (single p) ≡ p
  unfolding row_number singles
  number_single p l = ap (place (same (single p))) sets_two ∙ (place_single p 0 n (pairs n) (omega arith) (omega arith) ∙ omega arith)

  pub number_pair : (p q : ℕ) → row_number n (pair p q) ≡ n + pair_number n p q
  unfolding row_number singles pair_number
  number_pair p q = ap (place (same (pair p q))) sets_two ∙ place_pair p q 0 n (pairs n)

  pub count_two : n ≤ 24 → row_count n 2 ≡ n + n * (n - 1) / 2
  unfolding row_count
  count_two few =
      let e = ap length sets_two ∙ length-append (singles n) (pairs n) in
      let a = length_singles in
      let b = count_pairs n few in
      omega arith

  pub pair_below : n ≤ 24 → (p q : ℕ) → p < q → q < n → n + pair_number n p q < n + n * (n - 1) / 2
  pair_below few p q l m = omega (arith, (number_of n few p q l m).below)
