-- Laws of lists of lots and of pairs, place by place.
-- Assumes nothing.
use mathlib.Core.Path.{◌≡◌, refl, sym, ◌∙◌, ap}
use mathlib.Core.List.{List, [], ◌∷◌, ◌++◌, map, flat_map}
use Prim.Native.Nat.{ℕ, zero, suc, ◌+◌, ◌-◌, ◌≤◌, ◌<◌}
use native.Mathlib.Omega.{arith}
use native.Mathlib.Nat.{sub-zero}
use native.Mathlib.Numerals.{add-one}
use lib.ListN.{length, get_or, length-map, get_or-append}
use lib.Seq.{get_or-append-add}
use Rattle.pairs.specs.Pairs.{lots_from, pair, pairs_of, pairs, pair_at, low, high}

pub length_lots : (p k : ℕ) → length (lots_from p k) ≡ k
unfolding lots_from
length_lots p zero = refl
length_lots p (suc k) = ap suc (length_lots (suc p) k)

pub get_d_lots : (p k i : ℕ) → i < k → get_or (lots_from p k) i 0 ≡ p + i
unfolding lots_from
get_d_lots p zero i h = absurd (omega arith)
get_d_lots p (suc k) zero h = omega arith
get_d_lots p (suc k) (suc i) h = get_d_lots (suc p) k i (omega arith) ∙ omega arith

-- the i-th of a list of sets made from lots
pub get_d_sets : (f : ℕ → List ℕ) (l : List ℕ) (i : ℕ) → i < length l → get_or (map f l) i [] ≡ f (get_or l i 0)
get_d_sets f [] i h = absurd (omega arith)
get_d_sets f (x ∷ l) zero h = refl
get_d_sets f (x ∷ l) (suc i) h = get_d_sets f l i (omega arith)

-- past the first list, in the second
pub get_d_past : (s t : List (List ℕ)) (i : ℕ) → length s ≤ i → get_or (s ++ t) i [] ≡ get_or t (i - length s) []
get_d_past s t i h = ap (λ (j : ℕ). get_or (s ++ t) j []) (omega arith) ∙ get_or-append-add s t (i - length s) []

-- The pairs of the lots from p on: what a search for a pair by its number knows

module _ (n : ℕ) where
  abbrev pub rest : ℕ → List (List ℕ)
  rest p = flat_map (pairs_of n) (lots_from p (n - p))

  pub rest_all : (r : ℕ) → get_or (rest 0) r [] ≡ pair_at n r
  unfolding pair_at pairs
  rest_all r = rw sub-zero

  rest_step : (p : ℕ) → p < n → rest p ≡ pairs_of n p ++ rest (p + 1)
  unfolding flat_map lots_from
  rest_step p h = rw add-one (go (n - p) (n - suc p) (omega arith))
    where
      go : (m k : ℕ) → m ≡ suc k → flat_map (pairs_of n) (lots_from p m) ≡ pairs_of n p ++ flat_map (pairs_of n) (lots_from (suc p) k)
      go m k e = rw e

  length_pairs : (p : ℕ) → length (pairs_of n p) ≡ n - p - 1
  unfolding pairs_of
  length_pairs p = length-map (lots_from (suc p) (n - suc p)) (pair p) ∙ length_lots (suc p) (n - suc p) ∙ omega arith

  -- the pair is one of lot p's
  pub rest_here : (p k : ℕ) → p < n → k < n - p - 1 → get_or (rest p) k [] ≡ pair p (p + 1 + k)
  unfolding pairs_of
  rest_here p k h l =
      rw (rest_step p h)
      (get_or-append (pairs_of n p) (rest (p + 1)) [] k (rw length_pairs l)
      ∙ get_d_sets (pair p) (lots_from (suc p) (n - suc p)) k (rw length_lots (omega arith))
      ∙ ap (pair p) (get_d_lots (suc p) (n - suc p) k (omega arith) ∙ omega arith))

  -- the pair is one of a later lot's
  pub rest_later : (p k : ℕ) → p < n → n - p - 1 ≤ k → get_or (rest (p + 1)) (k - (n - p - 1)) [] ≡ get_or (rest p) k []
  rest_later p k h l = sym (rw (rest_step p h) (get_d_past (pairs_of n p) (rest (p + 1)) k (rw length_pairs l) ∙ rw length_pairs))

  -- the last lot has no pairs
  pub rest_none : (p : ℕ) → n ≤ p + 1 → rest p ≡ []
  unfolding flat_map lots_from pairs_of
  rest_none p h = go (n - p) refl
    where
      go : (m : ℕ) → n - p ≡ m → flat_map (pairs_of n) (lots_from p m) ≡ []
      go zero e = refl
      go (suc zero) e = let z : n - suc p ≡ 0 = omega arith in rw z
      go (suc (suc m)) e = absurd (omega arith)

-- the two lots of a pair
pub pair_low : (p q : ℕ) → low (pair p q) ≡ p
unfolding pair
pair_low p q = refl

pub pair_high : (p q : ℕ) → high (pair p q) ≡ q
unfolding pair
pair_high p q = refl
