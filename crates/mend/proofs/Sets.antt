-- Laws of sets of lots as bits: which lots are in a set made of others, that a set without lots is 0, its lowest lot, and how many lots it has.
-- Assumes nothing.
use mathlib.Core.Path.{◌≡◌, refl, sym, ◌∙◌, ap, ap₂, subst}
use mathlib.Core.Bool.{Bool, true, false, ◌&&◌, ◌||◌, not, or-true, or-false}
use Prim.Native.Nat.{ℕ, zero, suc, ◌+◌, ◌*◌, ◌/◌, ◌%◌, ◌^◌, ◌<◌}
use native.Mathlib.Decide.{dec_lt, ℕ_discrete}
use native.Mathlib.Nat.{mod-lt, div-eq_of_lt, div-one, zero-div, pow-succ', pow-le-pow_right}
use native.Mathlib.Omega.{arith}
use lib.Bits.{bit_and, bit_or, and_le_l, or_lt, xor_lt}
use lib.Count.{ones, ones_step, under, count_trailing_zeros}
use lib.Dec.{eqb}
use lib.Pow.{pow-lt, shl_exact}
use borrow.Author.Tests.{eq-eqb, ne_eqb}
use Rattle.lex.specs.Every.{one_if, count}
use Rattle.lex.proofs.Every.{and_left, not_both, false_of, count_cong}
use Rattle.week.specs.declared.Lot.{Lot}
use Rattle.week.proofs.Words.{half_bit, place_and, place_or, place_without}
use Rattle.mend.specs.Sets.{has, minus}

-- Bit by bit

module _ (k j p : ℕ) where
  pub has_and : has (bit_and k j) p ≡ (has k p && has j p)
  unfolding has
  has_and = place_and k j p

  pub has_or : has (bit_or k j) p ≡ (has k p || has j p)
  unfolding has
  has_or = place_or k j p

  pub has_minus : has (minus k j) p ≡ (has k p && not (has j p))
  unfolding has minus
  has_minus = place_without k j p

-- a lot of a part
pub part_has : (k j p : ℕ) → has (bit_and k j) p ≡ true → has k p ≡ true
part_has k j p e = and_left (has k p) (has j p) (sym (has_and k j p) ∙ e)

pub minus_low : (n k j : ℕ) → k < 2 ^ n → minus k j < 2 ^ n
unfolding minus
minus_low n k j h = let a = and_le_l k j in xor_lt n k (bit_and k j) h (omega arith)

pub has_zero : (p : ℕ) → has 0 p ≡ false
unfolding has
has_zero p = rw (zero-div (2 ^ p))

-- the half of a set has its lots, each one lower
half_has : (k p : ℕ) → has (k / 2) p ≡ has k (suc p)
unfolding has
half_has k p = ap (λ (m : ℕ). eqb (m % 2) 1) (half_bit k p)

first_has : (k : ℕ) → has k 0 ≡ eqb (k % 2) 1
unfolding has
first_has k = ap (λ (m : ℕ). eqb (m % 2) 1) (div-one k)

-- no lot is at the end of a set or behind it
pub has_low : (n k p : ℕ) → k < 2 ^ n → has k p ≡ true → p < n
unfolding has
has_low n k p h e = elim (dec_lt p n) [
  | yes l ↦ l
  | no l ↦ absurd (let a = pow-le-pow_right {n = 2} (omega arith) {i = n} {j = p} (omega arith) in not_both e (rw (div-eq_of_lt {n = k} {m = 2 ^ p} (omega arith))))
]

eqb_suc : (p q : ℕ) → eqb p q ≡ eqb (suc p) (suc q)
eqb_suc p q = elim (ℕ_discrete p q) [
  | yes e ↦ eq-eqb p q e ∙ sym (eq-eqb (suc p) (suc q) (ap suc e))
  | no e ↦ ne_eqb p q e ∙ sym (ne_eqb (suc p) (suc q) (λ z. e (omega arith)))
]

-- the set of one lot
pub has_one : (p q : ℕ) → has (2 ^ p) q ≡ eqb q p
unfolding has
has_one zero zero = refl
has_one zero (suc q) = let a = pow-lt {i = 0} {j = suc q} (omega arith) in rw (div-eq_of_lt {n = 1} {m = 2 ^ suc q} (omega arith)) (sym (ne_eqb (suc q) 0 (λ e. omega arith)))
has_one (suc p) zero = let a = pow-succ' 2 p in rw div-one (ne_eqb (2 ^ suc p % 2) 1 (λ e. omega arith) ∙ sym (ne_eqb 0 (suc p) (λ e. omega arith)))
has_one (suc p) (suc q) = sym (half_has (2 ^ suc p) q) ∙ ap (λ (m : ℕ). has m q) (let a = pow-succ' 2 p in omega arith) ∙ has_one p q ∙ eqb_suc q p

-- a set that is not 0 has a lot
pub member : (n k : ℕ) → k < 2 ^ n → 0 < k → (p : ℕ) × ((p < n) × (has k p ≡ true))
member zero k h g = absurd (omega arith)
member (suc n) k h g = elim (ℕ_discrete (k % 2) 1) [
  | yes e ↦ (0, (omega arith, first_has k ∙ eq-eqb (k % 2) 1 e))
  | no e ↦ let a = pow-succ' 2 n in let b = mod-lt k {m = 2} (omega arith) in let r = member n (k / 2) (omega arith) (omega arith) in (suc r.0, (let l = r.1.0 in omega arith, sym (half_has k r.0) ∙ r.1.1))
]

-- the lowest lot of a set that is not 0
pub lowest_has : (w k : ℕ) → k < 2 ^ w → 0 < k → has k (count_trailing_zeros w k) ≡ true
unfolding count_trailing_zeros
lowest_has zero k h g = absurd (omega arith)
lowest_has (suc w) k h g = let a = pow-succ' 2 w in go (k % 2) refl (λ l. lowest_has w (k / 2) (omega arith) l)
  where
    go : (d : ℕ) → k % 2 ≡ d → (0 < k / 2 → has (k / 2) (count_trailing_zeros w (k / 2)) ≡ true) → has k (under d (count_trailing_zeros w (k / 2))) ≡ true
    go zero e r = sym (half_has k (count_trailing_zeros w (k / 2))) ∙ r (omega arith)
    go (suc d) e r = let b = mod-lt k {m = 2} (omega arith) in first_has k ∙ eq-eqb (k % 2) 1 (omega arith)

-- How many lots a set has

count_first : (f : ℕ → Bool) (n : ℕ) → count f (suc n) ≡ one_if (f 0) + count (λ p. f (suc p)) n
unfolding count
count_first f zero = omega arith
count_first f (suc n) = let a = count_first f n in omega arith

digit_one : (d : ℕ) → d < 2 → d ≡ one_if (eqb d 1)
digit_one zero h = refl
digit_one (suc zero) h = refl
digit_one (suc (suc d)) h = absurd (omega arith)

pub ones_count : (n k : ℕ) → k < 2 ^ n → ones k ≡ count (has k) n
unfolding ones count
ones_count zero k h = let e : k ≡ 0 = omega arith in rw e
ones_count (suc n) k h =
    let a = pow-succ' 2 n in
    ones_step k
    ∙ ap₂ ◌+◌ (digit_one (k % 2) (mod-lt k (omega arith)) ∙ ap one_if (sym (first_has k))) (ones_count n (k / 2) (omega arith) ∙ count_cong (has (k / 2)) (λ p. has k (suc p)) n (λ p l. half_has k p))
    ∙ sym (count_first (has k) n)

count_member : (f : ℕ → Bool) (n p : ℕ) → p < n → f p ≡ true → 0 < count f n
unfolding count
count_member f zero p h e = absurd (omega arith)
count_member f (suc n) p h e = elim (dec_lt p n) [
  | yes l ↦ let a = count_member f n p l e in omega arith
  | no l ↦ let z : n ≡ p = omega arith in rw (z, e) (omega arith)
]

-- a set with a lot has at least one
pub ones_some : (n k p : ℕ) → k < 2 ^ n → has k p ≡ true → 0 < ones k
ones_some n k p h e = let a = ones_count n k h in let b = count_member (has k) n p (has_low n k p h e) e in omega arith

-- A set made of a test's answers, lot after lot: P says what the test may answer of a lot

abbrev pub Answers : (Lot → Bool → Type 0) → ℕ → ℕ → Type 0
Answers P n k = (k < 2 ^ n) × ((p : Lot) → p.0 < n → P p (has k p.0))

module _ (P : Lot → Bool → Type 0) (n k : ℕ) (c : Answers P n k) where
  higher : k < 2 ^ (n + 1)
  higher = let a = c.0 in let b = pow-lt {i = n} {j = n + 1} (omega arith) in omega arith

  -- it passes lot n
  pub answers_yes : (j : ℕ) → P (record { 0 = n }) true → j ≡ bit_or k (2 ^ n) → Answers P (n + 1) j
  answers_yes j h g = rw g (
    or_lt (n + 1) k (2 ^ n) higher (pow-lt (omega arith)),
    λ p l. elim (ℕ_discrete p.0 n) [
      | yes z ↦ rw (has_or k (2 ^ n) p.0, has_one n p.0, eq-eqb p.0 n z, or-true) (subst (λ (q : ℕ). P (record { 0 = q }) true) (sym z) h)
      | no z ↦ rw (has_or k (2 ^ n) p.0, has_one n p.0, ne_eqb p.0 n z, or-false) (c.1 p (omega arith))
    ],
  )

  -- it does not
  pub answers_no : P (record { 0 = n }) false → Answers P (n + 1) k
  answers_no h = (
    higher,
    λ p l. elim (ℕ_discrete p.0 n) [
      | yes z ↦ rw (false_of (has k p.0) (λ t. let a = has_low n k p.0 c.0 t in omega arith)) (subst (λ (q : ℕ). P (record { 0 = q }) false) (sym z) h)
      | no z ↦ c.1 p (omega arith)
    ],
  )

-- The set of one lot, as the code makes it
pub one_lot_lem : (p : ℕ) → p < 24 → 1 * 2 ^ p % 2 ^ 32 ≡ 2 ^ p
one_lot_lem p h = shl_exact {a = 1} 1 p 32 (omega arith) (omega arith) ∙ omega arith
