-- The sets that a repair table's rows stand for, by their numbers; and what each row asks of an order.
-- Assumes nothing.
use mathlib.Core.Path.{◌≡◌, refl, sym, ◌∙◌, ap}
use mathlib.Core.Bool.{Bool, true, false, ◌&&◌, not, cond, and-true, and_self}
use mathlib.Core.List.{List, [], ◌∷◌, append-nil}
use Prim.Native.Nat.{ℕ, zero, suc, ◌-◌, ◌*◌, ◌/◌, ◌≤◌, ◌<◌}
use native.Mathlib.Omega.{arith}
use lib.Dec.{eqb}
use lib.ListN.{length, get_or, length-append, get_or-append}
use borrow.Author.Tests.{eqb-true, not-true, not-false}
use Rattle.lex.specs.Every.{every, every_of}
use Rattle.lex.specs.Lists.{same}
use Rattle.lex.proofs.Every.{same_truth, both, and_left, and_right, not_both, every_true, every_at, every_miss}
use Rattle.lex.proofs.Lists.{same_eq, same_self}
use Rattle.repair.specs.declared.Lost.{Lost}
use Rattle.pairs.specs.Pairs.{lots_from, pair, pairs, pair_at, low, high}
use Rattle.pairs.proofs.Pairs.{length_lots, get_d_lots, get_d_sets, get_d_past}
use Rattle.pairs.proofs.Numbers.{Paired}
use Rattle.repair.specs.Break.{single, singles, lost_sets, breaks, row_count}
use Rattle.repair.specs.Found.{lots_of}
use Rattle.repair.proofs.Break.{lots_single, lots_pair}
use Rattle.repair.proofs.Numbering.{sets_two, length_singles, count_two}
use Rattle.week.specs.Rules.{bit_of}
use Rattle.robust.proofs.Super.{single_read, pair_read, sets_read}

-- The set of a row

module _ (n : ℕ) where
  -- a single row
  pub set_single : (i : ℕ) → i < n → get_or (lost_sets n 2) i [] ≡ single i
  unfolding singles
  set_single i h =
      rw (sets_two n)
      (get_or-append (singles n) (pairs n) [] i (rw length_singles h)
      ∙ get_d_sets single (lots_from 0 n) i (rw length_lots h)
      ∙ ap single (get_d_lots 0 n i h ∙ omega arith))

  -- behind those, the pairs by their numbers
  pub set_pair : (i : ℕ) → n ≤ i → get_or (lost_sets n 2) i [] ≡ pair_at n (i - n)
  unfolding pair_at
  set_pair i h = rw (sets_two n) (get_d_past (singles n) (pairs n) i (rw length_singles h) ∙ rw length_singles)

  pub pair_row : n ≤ 24 → (i : ℕ) → n ≤ i → i < row_count n 2 → i - n < n * (n - 1) / 2
  pair_row few i h l = let e = count_two n few in omega arith

-- The lots of a loss, as the code holds it

pub lost_single : (i : ℕ) (L : Lost) → L.0.0 ≡ i → L.1.0 ≡ i → lots_of L ≡ single i
lost_single i L e f = lots_single L (e ∙ sym f) ∙ ap single e

pub lost_pair : (p q : ℕ) (L : Lost) → L.0.0 ≡ p → L.1.0 ≡ q → p < q → lots_of L ≡ pair p q
lost_pair p q L e f h = lots_pair L (λ z. omega arith) ∙ rw (e, f)

-- the loss of a pair by its number
pub lost_numbered : (n : ℕ) (few : n ≤ 24) (r : ℕ) (L : Lost) → L.0.0 ≡ low (pair_at n r) → L.1.0 ≡ high (pair_at n r) → Paired n few r → lots_of L ≡ pair_at n r
lost_numbered n few r L e f p = lost_pair (low (pair_at n r)) (high (pair_at n r)) L e f p.order ∙ sym p.lots

-- a loss is a break if its first and its last lot stand in slots of their loss words
pub breaks_both : (loss s : List ℕ) (L : Lost) → breaks loss s (lots_of L) ≡ (bit_of (get_or loss L.0.0 0) (get_or s L.0.0 0) && bit_of (get_or loss L.1.0 0) (get_or s L.1.0 0))
unfolding breaks every_of lots_of single pair
breaks_both loss s L = go (eqb L.0.0 L.1.0) refl
  where
    at : ℕ → Bool
    at p = bit_of (get_or loss p 0) (get_or s p 0)

    go : (t : Bool) → eqb L.0.0 L.1.0 ≡ t → every_of (λ p. bit_of (get_or loss p 0) (get_or s p 0)) (cond t (L.0.0 ∷ []) (L.0.0 ∷ L.1.0 ∷ [])) ≡ (at L.0.0 && at L.1.0)
    go true e = rw (← eqb-true L.0.0 L.1.0 e, and_self, and-true)
    go false e = rw and-true

-- Every set of a list, by its place
pub every_row : (f : List ℕ → Bool) (l : List (List ℕ)) → every_of f l ≡ every (λ i. f (get_or l i [])) (length l)
unfolding every_of
every_row f l = same_truth (every_of f l) (every (λ i. f (get_or l i [])) (length l)) (λ e. every_true (λ i. f (get_or l i [])) (length l) (there l e)) (λ e. back l (λ i h. every_at (λ i. f (get_or l i [])) (length l) i e h))
  where
    there : (l : List (List ℕ)) → every_of f l ≡ true → (i : ℕ) → i < length l → f (get_or l i []) ≡ true
    there [] e i h = absurd (omega arith)
    there (A ∷ l) e zero h = and_left (f A) (every_of f l) e
    there (A ∷ l) e (suc i) h = there l (and_right (f A) (every_of f l) e) i (omega arith)

    back : (l : List (List ℕ)) → ((i : ℕ) → i < length l → f (get_or l i []) ≡ true) → every_of f l ≡ true
    back [] h = refl
    back (A ∷ l) h = both (h 0 (omega arith)) (back l (λ i m. h (suc i) (omega arith)))

-- the rows of fewer losses are the first of the rows of more
pub set_fewer : (n a i : ℕ) → a ≤ 2 → i < row_count n a → get_or (lost_sets n a) i [] ≡ get_or (lost_sets n 2) i []
unfolding row_count lost_sets
set_fewer n zero i h l = absurd (omega arith)
set_fewer n (suc zero) i h l =
    let e = append-nil (singles n) in
    ap (λ (k : List (List ℕ)). get_or k i []) e ∙ sym (get_or-append (singles n) (pairs n) [] i (let f = ap length e in omega arith))
set_fewer n (suc (suc zero)) i h l = refl
set_fewer n (suc (suc (suc a))) i h l = absurd (omega arith)

pub count_most : (n a : ℕ) → a ≤ 2 → row_count n a ≤ row_count n 2
unfolding row_count lost_sets
count_most n zero h = omega arith
count_most n (suc zero) h = let e = ap length (append-nil (singles n)) in let f = length-append (singles n) (pairs n) in omega arith
count_most n (suc (suc zero)) h = omega arith
count_most n (suc (suc (suc a))) h = absurd (omega arith)

-- the row of a set, where a test of every set reaches it
pub record Row (n a : ℕ) (A : List ℕ) : Type 0 where
  pub at : ℕ
  pub low : at < row_count n a
  pub set : A ≡ get_or (lost_sets n a) at []

module _ (n a : ℕ) (A : List ℕ) where
  abbrev other : List ℕ → Bool
  other B = not (same A B)

  row_of : (every_of other (lost_sets n a) ≡ true → other A ≡ true) → Row n a A
  unfolding row_count
  row_of h = go (every_of other (lost_sets n a)) refl
    where
      go : (t : Bool) → every_of other (lost_sets n a) ≡ t → Row n a A
      go true e = absurd (not_both (same_self A) (not-true (same A A) (h e)))
      go false e = let m = every_miss (λ i. other (get_or (lost_sets n a) i [])) (length (lost_sets n a)) (sym (every_row other (lost_sets n a)) ∙ e) in record { at = m.at; low = m.below; set = same_eq A (get_or (lost_sets n a) m.at []) (not-false (same A (get_or (lost_sets n a) m.at [])) m.fails) }

pub row_single : (n a p : ℕ) → 0 < a → p < n → Row n a (single p)
row_single n a p h l = row_of n a (single p) (λ e. single_read (other n a (single p)) n ((sets_read (other n a (single p)) n a e).0 h) p l)

pub row_pair : (n a p q : ℕ) → 1 < a → p < q → q < n → Row n a (pair p q)
row_pair n a p q h l m = row_of n a (pair p q) (λ e. pair_read (other n a (pair p q)) n ((sets_read (other n a (pair p q)) n a e).1 h) p q l m)
