-- Counting: things in different places need as many places; and the slots of a word, counted. Assumes nothing.
use mathlib.Core.Path.{◌≡◌, refl, sym, ap}
use mathlib.Core.Bool.{Bool, true, false, ◌&&◌, ◌||◌, not, true≢false, and-true, and-false}
use Prim.Native.Nat.{ℕ, zero, suc, ◌+◌, ◌/◌, ◌%◌, ◌^◌, ◌≤◌, ◌<◌}
use native.Mathlib.Decide.{dec_lt}
use native.Mathlib.Nat.{mod-lt, div-one}
use native.Mathlib.Omega.{arith}
use lib.Count.{ones, ones_step}
use lib.Dec.{eqb}
use borrow.Author.Tests.{lt-ltb, eq-eqb, ne_eqb}
use Rattle.lex.specs.Every.{one_if, count}
use Rattle.lex.proofs.Every.{both, count_cong, one_if_le}
use Rattle.week.specs.Rules.{bit_of}
use Rattle.week.proofs.Words.{half_bit}

-- Pigeons

-- without one number that passes
count_less : (f : ℕ → Bool) (x k : ℕ) → x < k → f x ≡ true → count (λ v. f v && not (eqb v x)) k + 1 ≡ count f k
unfolding count
count_less f x zero l e = absurd (omega arith)
count_less f x (suc k) l e = elim (dec_lt x k) [
  | yes h ↦
      let a = count_less f x k h e in
      let b : one_if (f k && not (eqb k x)) ≡ one_if (f k) = rw (ne_eqb k x (λ z. omega arith), and-true) in
      omega arith
  | no h ↦
      let z : k ≡ x = omega arith in
      let a = count_cong (λ v. f v && not (eqb v x)) f k (λ v m. rw (ne_eqb v x (λ y. omega arith), and-true)) in
      let b : one_if (f k && not (eqb k x)) ≡ 0 = rw (eq-eqb k x z, and-false) in
      let d : one_if (f k) ≡ 1 = rw (z, e) in
      omega arith
]

-- the n first lots that pass f stand in different places below k that pass g
pub record Apart (f g : ℕ → Bool) (place : ℕ → ℕ) (n k : ℕ) : Type 0 where
  pub below : (q : ℕ) → q < n → f q ≡ true → place q < k
  pub passes : (q : ℕ) → q < n → f q ≡ true → g (place q) ≡ true
  pub differ : (p q : ℕ) → p < q → q < n → f p ≡ true → f q ≡ true → place p ≡ place q → ⊥

-- then there are as many such places
pub pigeon : (f g : ℕ → Bool) (place : ℕ → ℕ) (n k : ℕ) → Apart f g place n k → count f n ≤ count g k
unfolding count
pigeon f g place zero k a = omega arith
pigeon f g place (suc n) k a = go (λ h. pigeon f h place n k) (f n) refl
  where
    go : ((h : ℕ → Bool) → Apart f h place n k → count f n ≤ count h k) → (b : Bool) → f n ≡ b → count f n + one_if b ≤ count g k
    go fewer false e =
        let i = fewer g (record { below = λ q l. a.below q (omega arith); passes = λ q l. a.passes q (omega arith); differ = λ p q l m. a.differ p q l (omega arith) }) in
        omega arith
    go fewer true e =
        let i = fewer (λ v. g v && not (eqb v (place n))) (record {
          below = λ q l. a.below q (omega arith);
          passes = λ q l t. both (a.passes q (omega arith) t) (ap not (ne_eqb (place q) (place n) (a.differ q n l (omega arith) t e)));
          differ = λ p q l m. a.differ p q l (omega arith);
        }) in
        let j = count_less g (place n) k (a.below n (omega arith) e) (a.passes n (omega arith) e) in
        omega arith

-- Two tests

module _ (f g h : ℕ → Bool) where
  -- no number passes both f and g, and each that passes one passes h
  pub count_apart : (n : ℕ) → ((p : ℕ) → p < n → f p ≡ true → h p ≡ true) → ((p : ℕ) → p < n → g p ≡ true → h p ≡ true) → ((p : ℕ) → p < n → f p ≡ true → g p ≡ true → ⊥) → count f n + count g n ≤ count h n
  unfolding count
  count_apart zero x y z = omega arith
  count_apart (suc n) x y z =
      let a = count_apart n (λ p l. x p (omega arith)) (λ p l. y p (omega arith)) (λ p l. z p (omega arith)) in
      let b = one (f n) (g n) (h n) (x n (omega arith)) (y n (omega arith)) (z n (omega arith)) in
      omega arith
    where
      one : (a b c : Bool) → (a ≡ true → c ≡ true) → (b ≡ true → c ≡ true) → (a ≡ true → b ≡ true → ⊥) → one_if a + one_if b ≤ one_if c
      one true true c x y z = absurd (z refl refl)
      one true false c x y z = rw (x refl) (omega arith)
      one false true c x y z = rw (y refl) (omega arith)
      one false false c x y z = omega arith

  -- each number that passes h passes f or g
  pub count_either : (n : ℕ) → ((p : ℕ) → p < n → h p ≡ true → (f p || g p) ≡ true) → count h n ≤ count f n + count g n
  unfolding count
  count_either zero x = omega arith
  count_either (suc n) x =
      let a = count_either n (λ p l. x p (omega arith)) in
      let b = one (f n) (g n) (h n) (x n (omega arith)) in
      omega arith
    where
      one : (a b c : Bool) → (c ≡ true → (a || b) ≡ true) → one_if c ≤ one_if a + one_if b
      one true b c x = let i = one_if_le c in omega arith
      one false true c x = let i = one_if_le c in omega arith
      one false false true x = absurd (true≢false (sym (x refl)))
      one false false false x = omega arith

-- The slots of a word

count_shift : (f : ℕ → Bool) (k : ℕ) → count f (suc k) ≡ one_if (f 0) + count (λ v. f (suc v)) k
unfolding count
count_shift f zero = omega arith
count_shift f (suc k) = let a = count_shift f k in omega arith

one_digit : (d : ℕ) → d < 2 → one_if (eqb d 1) ≡ d
one_digit zero h = refl
one_digit (suc zero) h = refl
one_digit (suc (suc d)) h = absurd (omega arith)

-- the k lowest digits, and those above them
ones_digits : (k w : ℕ) → ones w ≡ count (λ v. eqb (w / 2 ^ v % 2) 1) k + ones (w / 2 ^ k)
unfolding count
ones_digits zero w = rw div-one (omega arith)
ones_digits (suc k) w =
    let a = ones_step w in
    let b = ones_digits k (w / 2) in
    let c = count_shift (λ v. eqb (w / 2 ^ v % 2) 1) k in
    let d = count_cong (λ v. eqb (w / 2 / 2 ^ v % 2) 1) (λ v. eqb (w / 2 ^ suc v % 2) 1) k (λ v l. rw (half_bit w v)) in
    let e : one_if (eqb (w / 2 ^ 0 % 2) 1) ≡ w % 2 = rw div-one (one_digit (w % 2) (mod-lt w (omega arith))) in
    let f : ones (w / 2 / 2 ^ k) ≡ ones (w / 2 ^ suc k) = rw (half_bit w k) in
    omega arith

-- the ones of a number are the slots of its word and, where it has more than 16 bits, those above
pub ones_slots : (w : ℕ) → ones w ≡ count (bit_of w) 16 + ones (w / 2 ^ 16)
unfolding bit_of
ones_slots w =
    let a = ones_digits 16 w in
    let b = count_cong (bit_of w) (λ v. eqb (w / 2 ^ v % 2) 1) 16 (λ v l. rw (lt-ltb v 16 l)) in
    omega arith
