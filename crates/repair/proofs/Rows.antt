-- Laws of the service row: how many rows there are, which one stands for a loss, and each of its answers.
-- Assumes nothing.
use mathlib.Core.Path.{◌≡◌, refl, sym, ◌∙◌, ap}
use mathlib.Core.Bool.{true, false, ◌&&◌, and-false}
use mathlib.Core.List.{List, [], ◌∷◌, append-nil}
use Prim.Native.Nat.{ℕ, zero, suc, ◌+◌, ◌-◌, ◌*◌, ◌≤◌, ◌<◌}
use native.Mathlib.Omega.{arith}
use native.Mathlib.Nat.{mul-le-mul, mul-le-mul_right, suc-mul}
use lib.Dec.{eqb, leb}
use lib.ListN.{length, get_or, take, drop}
use borrow.Author.Tests.{leb-true, eqb-true, eq-eqb, ne_eqb, true-eqb, false-eqb}
use Rattle.std.specs.Prelude.{Result}
use Rattle.std.specs.Result.{is_err}
use Rattle.lex.proofs.Every.{and_left, and_right, both}
use Rattle.week.specs.declared.Refusal.{Refusal}
use Rattle.week.specs.Refusal.{answer}
use Rattle.week.proofs.Tables.{stops, goes_on, stops_last, goes_off, passed_first, passed_rest, passed_last}
use Rattle.repair.specs.declared.Lost.{Lost}
use Rattle.pairs.specs.Pairs.{pair, pair_number}
use Rattle.repair.specs.Break.{single, singles, lost_sets, lost_ok, LostList, row_number, row_count, row_at}
use Rattle.repair.specs.Found.{lots_of}
use Rattle.repair.specs.Service.{row_numbers, row_lengths, row_answer, row_part}
use Rattle.repair.proofs.Break.{lost_read, lost_list, lost_below, lots_first, lots_last, lots_single, lots_pair}
use Rattle.repair.proofs.Refused.{answer_good, answer_bad}
use Rattle.repair.proofs.Numbering.{length_singles, count_two, number_single, number_pair, pair_below}

-- How many rows

pub count_none : (n : ℕ) → row_count n 0 ≡ 0
unfolding row_count lost_sets
count_none n = refl

pub count_one : (n : ℕ) → row_count n 1 ≡ n
unfolding row_count lost_sets
count_one n = ap length (append-nil (singles n)) ∙ length_singles n

-- n × (n − 1) is small
pub product_small : {x y : ℕ} → x ≤ 24 → y ≤ 48 → x * y ≤ 1152
product_small {x} {y} h g = mul-le-mul {n₁ = x} {m₁ = y} {n₂ = 24} {m₂ = 48} h g

module _ (n a : ℕ) (few : n ≤ 24) (at_most : a ≤ 2) where
  -- a row for each single lot, where one may be lost
  pub count_some : 0 < a → n ≤ row_count n a
  count_some h = go a h at_most
    where
      go : (a : ℕ) → 0 < a → a ≤ 2 → n ≤ row_count n a
      go zero h l = absurd (omega arith)
      go (suc zero) h l = rw count_one (omega arith)
      go (suc (suc zero)) h l = rw (count_two n few) (omega arith)
      go (suc (suc (suc a))) h l = absurd (omega arith)

  pub count_small : row_count n a ≤ 600
  count_small = go a at_most
    where
      go : (a : ℕ) → a ≤ 2 → row_count n a ≤ 600
      go zero l = rw count_none (omega arith)
      go (suc zero) l = rw count_one (omega arith)
      go (suc (suc zero)) l = rw (count_two n few) (let m = product_small {x = n} {y = n - 1} few (omega arith) in omega arith)
      go (suc (suc (suc a))) l = absurd (omega arith)

-- Which row stands for a loss

module _ (n : ℕ) (L : Lost) where
  pub row_single : L.0.0 ≡ L.1.0 → L.1.0 < n → L.0.0 ≡ row_number n (lots_of L)
  row_single e h = sym (ap (row_number n) (lots_single L e) ∙ number_single n L.0.0 (omega arith))

  pub row_pair : L.0.0 < L.1.0 → n + pair_number n L.0.0 L.1.0 ≡ row_number n (lots_of L)
  row_pair e = sym (ap (row_number n) (lots_pair L (λ z. omega arith)) ∙ number_pair n L.0.0 L.1.0)

-- it is a row of the table
module _ (n a : ℕ) (few : n ≤ 24) (at_most : a ≤ 2) where
  pub row_below : (A : List ℕ) → 1 ≤ length A → lost_ok n 0 a A ≡ true → row_number n A < row_count n a
  unfolding single pair
  row_below A h e = go A h e (lost_list n 0 a A at_most h e) (lost_below n 0 a A at_most h e) (lost_read n 0 a A e).few
    where
      two : (p q : ℕ) → p < q → q < n → a ≡ 2 → row_number n (pair p q) < row_count n a
      two p q l m e = rw (e, count_two n few, number_pair n p q) (pair_below n few p q l m)

      go : (A : List ℕ) → 1 ≤ length A → lost_ok n 0 a A ≡ true → LostList A → ((i : ℕ) → i < length A → get_or A i 0 < n) → length A ≤ a → row_number n A < row_count n a
      go [] h e l b m = absurd (omega arith)
      go (p ∷ []) h e l b m = let k = count_some n a few at_most (omega arith) in let i = b 0 (omega arith) in let j = number_single n p i in rw j (omega arith)
      go (p ∷ q ∷ []) h e l b m = two p q (l.ascends (omega arith)) (b 1 (omega arith)) (omega arith)
      go (p ∷ q ∷ r ∷ A) h e l b m = absurd (omega (arith, l.few))

-- The answers

pub numbers_read : (n a : ℕ) → row_numbers n a ≡ true → (1 ≤ n) × ((n ≤ 24) × (a ≤ 2))
unfolding row_numbers
numbers_read n a e =
    let f = and_right (leb 1 n) (leb n 24 && leb a 2) e in
    (leb-true 1 n (and_left (leb 1 n) (leb n 24 && leb a 2) e), (leb-true n 24 (and_left (leb n 24) (leb a 2) f), leb-true a 2 (and_right (leb n 24) (leb a 2) f)))

module _ (n a : ℕ) (order table A : List ℕ) where
  pub row_numbers_bad : row_numbers n a ≡ false → 1 ≡ row_answer n a order table A
  unfolding row_answer
  row_numbers_bad e = stops (row_numbers n a && lost_ok n 0 a A) 1 _ (rw e) (λ z. omega arith)

  pub row_lost_bad : lost_ok n 0 a A ≡ false → 1 ≡ row_answer n a order table A
  unfolding row_answer
  row_lost_bad e = stops (row_numbers n a && lost_ok n 0 a A) 1 _ (rw (e, and-false)) (λ z. omega arith)

  module _ (numbers : row_numbers n a ≡ true) (lost : lost_ok n 0 a A ≡ true) where
    pub row_lengths_bad : row_lengths n a order table ≡ false → 2 ≡ row_answer n a order table A
    unfolding row_answer
    row_lengths_bad e = goes_on (row_numbers n a && lost_ok n 0 a A) 1 _ (both numbers lost) (stops_last (row_lengths n a order table) 2 e)

    pub row_good : row_lengths n a order table ≡ true → 0 ≡ row_answer n a order table A
    unfolding row_answer
    row_good e = goes_on (row_numbers n a && lost_ok n 0 a A) 1 _ (both numbers lost) (goes_off (row_lengths n a order table) 2 e)

  -- what row shows

  pub shows_none : (k : ℕ) → k ≡ row_answer n a order table A → (k ≡ 0 → ⊥) → [] ≡ row_part n a order table A
  unfolding row_part
  shows_none k e h = rw (ne_eqb (row_answer n a order table A) 0 (λ z. h (e ∙ z)))

  module _ (fine : row_answer n a order table A ≡ 0) where
    first_check : (row_numbers n a && lost_ok n 0 a A) ≡ true
    unfolding row_answer
    first_check = passed_first (row_numbers n a && lost_ok n 0 a A) 1 _ (λ z. omega arith) fine

    pub fine_numbers : (1 ≤ n) × ((n ≤ 24) × (a ≤ 2))
    fine_numbers = numbers_read n a (and_left (row_numbers n a) (lost_ok n 0 a A) first_check)

    pub fine_lost : lost_ok n 0 a A ≡ true
    fine_lost = and_right (row_numbers n a) (lost_ok n 0 a A) first_check

    pub fine_table : length table ≡ row_count n a * n
    unfolding row_answer row_lengths
    fine_table = eqb-true (length table) (row_count n a * n) (and_right (eqb (length order) n) (eqb (length table) (row_count n a * n)) (passed_last (row_lengths n a order table) 2 (λ z. omega arith) (passed_rest (row_numbers n a && lost_ok n 0 a A) 1 _ (λ z. omega arith) fine)))

    pub shows_order : length A ≡ 0 → order ≡ row_part n a order table A
    unfolding row_part
    shows_order e = rw (eq-eqb (row_answer n a order table A) 0 fine, eq-eqb (length A) 0 e)

    module _ (some : 1 ≤ length A) where
      -- the row ends within the table
      pub row_fits : row_number n A * n + n ≤ length table
      row_fits =
          let f = fine_numbers in
          let b = row_below n a f.1.0 f.1.1 A some fine_lost in
          let m = mul-le-mul_right n b in
          let s = suc-mul (row_number n A) n in
          let t = fine_table in
          omega arith

      pub row_small : row_number n A * n ≤ 600 * 24
      row_small =
          let f = fine_numbers in
          let b = row_below n a f.1.0 f.1.1 A some fine_lost in
          let c = count_small n a f.1.0 f.1.1 in
          mul-le-mul {n₁ = row_number n A} {m₁ = n} {n₂ = 600} {m₂ = 24} (omega arith) f.1.0

      pub shows_row : (part : List ℕ) → part ≡ take (row_number n A * n + n - row_number n A * n) (drop (row_number n A * n) table) → part ≡ row_part n a order table A
      unfolding row_part row_at
      shows_row part e =
          let m : row_number n A * n + n - row_number n A * n ≡ n = omega arith in
          e ∙ rw (eq-eqb (row_answer n a order table A) 0 fine, ne_eqb (length A) 0 (λ z. omega arith), m) refl

  -- a number of a row, as the code comes to it
  module _ (fine : row_answer n a order table A ≡ 0) (some : 1 ≤ length A) (i : ℕ) (is : i ≡ row_number n A) where
    pub ends_small : i * n ≤ 14400
    ends_small = rw is (row_small fine some)

    pub ends_within : i * n + n ≤ length table
    ends_within = rw is (row_fits fine some)

    pub ends_shown : (part : List ℕ) → part ≡ take (i * n + n - i * n) (drop (i * n) table) → part ≡ row_part n a order table A
    ends_shown part e = shows_row fine some part (rw is at e)

  module _ (fine : row_answer n a order table A ≡ 0) (some : 1 ≤ length A) where
    -- the first and the last lot of the loss
    pub lost_order : (L : Lost) → lots_of L ≡ A → (n ≤ 24) × ((L.0.0 ≤ L.1.0) × (L.1.0 < n))
    lost_order L e =
        let f = fine_numbers fine in
        let l = lost_list n 0 a A f.1.1 some (fine_lost fine) in
        let b = lost_below n 0 a A f.1.1 some (fine_lost fine) (length A - 1) (omega arith) in
        (f.1.0, (rw (lots_first L A e, lots_last L A e) (first_last A l), rw (lots_last L A e) b))
      where
        first_last : (A : List ℕ) → LostList A → get_or A 0 0 ≤ get_or A (length A - 1) 0
        first_last [] l = omega arith
        first_last (p ∷ []) l = omega arith
        first_last (p ∷ q ∷ []) l = let h = l.ascends (omega arith) in omega arith
        first_last (p ∷ q ∷ r ∷ A) l = absurd (omega (arith, l.few))

-- The same from what the code has: the refusal r, and whether a lot is lost
module _ (n a : ℕ) (order table A : List ℕ) {B : Type 0} (r : Result B Refusal) (is : answer r ≡ row_answer n a order table A) where
  pub run_none : true ≡ is_err r → [] ≡ row_part n a order table A
  run_none e = shows_none n a order table A (answer r) is (answer_bad r e)

  module _ (good : false ≡ is_err r) where
    fine : row_answer n a order table A ≡ 0
    fine = sym is ∙ answer_good r good

    pub run_order : true ≡ eqb (length A) 0 → order ≡ row_part n a order table A
    run_order e = shows_order n a order table A fine (true-eqb (length A) 0 e)

    module _ (filled : false ≡ eqb (length A) 0) where
      some : 1 ≤ length A
      some = let e = false-eqb (length A) 0 filled in omega arith

      pub run_lost : LostList A
      run_lost = lost_list n 0 a A (fine_numbers n a order table A fine).1.1 some (fine_lost n a order table A fine)

      -- L is the loss, and i its row
      module _ (L : Lost) (are : lots_of L ≡ A) where
        pub run_between : (n ≤ 24) × ((L.0.0 ≤ L.1.0) × (L.1.0 < n))
        run_between = lost_order n a order table A fine some L are

        module _ (i : ℕ) (row : i ≡ row_number n (lots_of L)) where
          at : i ≡ row_number n A
          at = row ∙ ap (row_number n) are

          pub run_small : i * n ≤ 14400
          run_small = ends_small n a order table A fine some i at

          pub run_within : i * n + n ≤ length table
          run_within = ends_within n a order table A fine some i at

          pub run_shown : (part : List ℕ) → part ≡ take (i * n + n - i * n) (drop (i * n) table) → part ≡ row_part n a order table A
          run_shown part e = ends_shown n a order table A fine some i at part e
