-- All sets of 1 to a lots, by the rows that stand for them: a test of each row's set is a test of every set, and each set has its row.
-- Assumes nothing.
use mathlib.Core.Path.{◌≡◌, refl, sym, ◌∙◌, ap}
use mathlib.Core.Bool.{Bool, true, false, cond, true≢false}
use mathlib.Core.List.{List, [], ◌∷◌, flat_map}
use Prim.Native.Nat.{ℕ, zero, suc, ◌+◌, ◌≤◌, ◌<◌}
use native.Mathlib.Omega.{arith}
use lib.Dec.{eqb}
use lib.ListN.{length, get_or}
use borrow.Author.Tests.{eqb-true}
use Rattle.lex.specs.Every.{every, every_of}
use Rattle.lex.specs.Lists.{same}
use Rattle.lex.proofs.Every.{every_true, every_at}
use Rattle.lex.proofs.Lists.{same_eq, same_self}
use Rattle.pairs.specs.Pairs.{lots_from, pair, pairs_of, pairs, place}
use Rattle.repair.specs.Break.{single, singles, lost_sets, lost_ok, row_number, row_count}
use Rattle.repair.proofs.Rows.{row_below}
use Rattle.robust.proofs.Rows.{every_row, set_fewer, count_most}
use Rattle.robust.proofs.Super.{single_read, single_make, pair_read, pair_make, sets_read, sets_make}
use Rattle.demands.specs.Plans.{SetOfLots}
use Rattle.demands.proofs.Readings.{lost_reads}

-- A test of every set of lots is the test of each row's set

module _ (f : List ℕ → Bool) (n a : ℕ) (two : a ≤ 2) where
  pub every_set : every_of f (lost_sets n a) ≡ true → (A : List ℕ) → SetOfLots n a A → f A ≡ true
  unfolding single pair
  every_set e [] set = absurd (let l = set.some in omega arith)
  every_set e (p ∷ []) set = single_read f n ((sets_read f n a e).0 (let l = set.few in omega arith)) p (set.below 0 (omega arith))
  every_set e (p ∷ q ∷ []) set = pair_read f n ((sets_read f n a e).1 (let l = set.few in omega arith)) p q (set.ascends 0 (omega arith)) (set.below 1 (omega arith))
  every_set e (p ∷ q ∷ r ∷ A) set = absurd (let l = set.few in omega arith)

  pub set_every : ((A : List ℕ) → SetOfLots n a A → f A ≡ true) → every_of f (lost_sets n a) ≡ true
  unfolding single pair
  set_every h =
      sets_make f n a
      (λ l. single_make f n (λ p m. h (p ∷ []) (record { some = omega arith; few = omega arith; below = one p m; ascends = λ i j. absurd (omega arith) })))
      (λ l. pair_make f n (λ p q x y. h (p ∷ q ∷ []) (record { some = omega arith; few = omega arith; below = both_below p q x y; ascends = rising p q x })))
    where
      one : (p : ℕ) → p < n → (i : ℕ) → i < 1 → get_or (p ∷ []) i 0 < n
      one p m zero j = m
      one p m (suc i) j = absurd (omega arith)

      both_below : (p q : ℕ) → p < q → q < n → (i : ℕ) → i < 2 → get_or (p ∷ q ∷ []) i 0 < n
      both_below p q x y zero j = omega arith
      both_below p q x y (suc zero) j = y
      both_below p q x y (suc (suc i)) j = absurd (omega arith)

      rising : (p q : ℕ) → p < q → (i : ℕ) → i + 1 < 2 → get_or (p ∷ q ∷ []) i 0 < get_or (p ∷ q ∷ []) (i + 1) 0
      rising p q x zero j = x
      rising p q x (suc i) j = absurd (omega arith)

-- Each set has its row

-- the place of the first that passes holds one that passes
place_passes : (f : List ℕ → Bool) (l : List (List ℕ)) (i : ℕ) → i < length l → f (get_or l i []) ≡ true → f (get_or l (place f l) []) ≡ true
unfolding place
place_passes f [] i h e = absurd (omega arith)
place_passes f (A ∷ l) i h e = go (λ j. place_passes f l j) (f A) refl i h e
  where
    go : ((j : ℕ) → j < length l → f (get_or l j []) ≡ true → f (get_or l (place f l) []) ≡ true) → (t : Bool) → f A ≡ t → (i : ℕ) → i < suc (length l) → f (get_or (A ∷ l) i []) ≡ true → f (get_or (A ∷ l) (cond t 0 (suc (place f l))) []) ≡ true
    go later true x i h e = x
    go later false x zero h e = absurd (true≢false (sym e ∙ x))
    go later false x (suc i) h e = later i (omega arith) e

module _ (n : ℕ) where
  -- the row of a set holds it
  abbrev hits : List ℕ → Bool
  hits A = same A (get_or (lost_sets n 2) (row_number n A) [])

  hits_all : every_of hits (lost_sets n 2) ≡ true
  unfolding row_number
  hits_all =
      every_row hits (lost_sets n 2)
      ∙ every_true (λ i. hits (get_or (lost_sets n 2) i [])) (length (lost_sets n 2))
      (λ i h. place_passes (same (get_or (lost_sets n 2) i [])) (lost_sets n 2) i h (same_self (get_or (lost_sets n 2) i [])))

  module _ (a : ℕ) (two : a ≤ 2) (A : List ℕ) (set : SetOfLots n a A) where
    -- it passes the tests of lost lots
    pub set_lost : (least most : ℕ) → least ≤ 1 → a ≤ most → lost_ok n least most A ≡ true
    set_lost least most l m = (lost_reads n least most A).passes.1 ((let x = set.some in omega arith), (let x = set.few in omega arith, (set.below, λ i h. set.ascends i (omega arith))))

    pub set_row : n ≤ 24 → row_number n A < row_count n a
    set_row few = row_below n a few two A set.some (set_lost 0 a (omega arith) (omega arith))

    pub row_set : n ≤ 24 → get_or (lost_sets n a) (row_number n A) [] ≡ A
    row_set few =
        set_fewer n a (row_number n A) two (set_row few)
        ∙ sym (same_eq A (get_or (lost_sets n 2) (row_number n A) []) (every_set hits n 2 (omega arith) hits_all A (record { some = set.some; few = let l = set.few in omega arith; below = set.below; ascends = set.ascends })))

-- and each row its set: the number of a row's set, checked by computation for every number of lots that a week may have

row_well : ℕ → ℕ → Bool
row_well n i = eqb (row_number n (get_or (lost_sets n 2) i [])) i

rows_well : ℕ → Bool
rows_well n = every (row_well n) (row_count n 2)

renumbered : every rows_well 25 ≡ true
unfolding every flat_map lots_from single pair singles pairs_of pairs lost_sets same place row_number row_count row_well rows_well
renumbered = refl

number_row : (n : ℕ) → n ≤ 24 → (i : ℕ) → i < row_count n 2 → row_number n (get_or (lost_sets n 2) i []) ≡ i
unfolding row_well rows_well
number_row n few i h = eqb-true (row_number n (get_or (lost_sets n 2) i [])) i (every_at (row_well n) (row_count n 2) i (every_at rows_well 25 n renumbered (omega arith)) h)

module _ (n a i : ℕ) (two : a ≤ 2) (row : i < row_count n a) where
  pub set_of : SetOfLots n a (get_or (lost_sets n a) i [])
  unfolding row_count
  set_of =
      let all = set_every (lost_ok n 1 a) n a two (λ A set. set_lost n a two A set 1 a (omega arith) (omega arith)) in
      let ok = every_at (λ j. lost_ok n 1 a (get_or (lost_sets n a) j [])) (length (lost_sets n a)) i (sym (every_row (lost_ok n 1 a) (lost_sets n a)) ∙ all) row in
      let r = (lost_reads n 1 a (get_or (lost_sets n a) i [])).passes.0 ok in
      record { some = r.0; few = r.1.0; below = r.1.1.0; ascends = λ j h. r.1.1.1 j (omega arith) }

  pub number_of : n ≤ 24 → row_number n (get_or (lost_sets n a) i []) ≡ i
  number_of few = ap (row_number n) (set_fewer n a i two row) ∙ number_row n few i (let m = count_most n a two in omega arith)
