-- Words of slots: a word is known by its bits, and what `&`, `|` and taking away say of the bits. And places in the tie table.
-- Assumes nothing.
use mathlib.Core.Path.{◌≡◌, refl, sym, ◌∙◌, ap}
use mathlib.Core.Bool.{Bool, true, false, ◌&&◌, ◌||◌, not}
use Prim.Native.Nat.{ℕ, zero, suc, ◌*◌, ◌/◌, ◌%◌, ◌^◌, ◌≤◌, ◌<◌}
use native.Mathlib.Nat.{mod-lt, mul-le-mul, div-div-eq-div-mul, pow-succ', div-one, zero-div}
use native.Mathlib.Omega.{arith}
use mathlib.Core.List.{List}
use lib.Dec.{eqb, ltb}
use lib.ListN.{length, get_or, get_or-eq_default}
use lib.Bits.{bit_and, bit_or, bit_xor, and_shr, and_mod, and_le_l, or_shr, or_mod, xor_shr, xor_mod}
use borrow.Author.Tests.{eqb-true, eq-eqb, lt-ltb, ltb-true}
use Rattle.lex.specs.Every.{imp, every}
use Rattle.lex.proofs.Every.{same_truth, false_of, imp_in, imp_out, every_true, every_at, and_left, and_right}
use Rattle.week.specs.Rules.{bit_of, inside}

-- the half of a word has its bits, one place lower
pub half_bit : (x v : ℕ) → x / 2 / 2 ^ v ≡ x / 2 ^ suc v
half_bit x v = div-div-eq-div-mul x 2 (2 ^ v) ∙ ap (λ (m : ℕ). x / m) (sym (pow-succ' 2 v))

-- two numbers below 2 ^ k with the same k bits are one
digits_same : (k x y : ℕ) → x < 2 ^ k → y < 2 ^ k → ((v : ℕ) → v < k → x / 2 ^ v % 2 ≡ y / 2 ^ v % 2) → x ≡ y
digits_same zero x y h g e = omega arith
digits_same (suc k) x y h g e =
    let p = pow-succ' 2 k in
    let low : x % 2 ≡ y % 2 = rw (div-one, div-one) at (e 0 (omega arith)) in
    let high : x / 2 ≡ y / 2 = digits_same k (x / 2) (y / 2) (omega arith) (omega arith) (λ v l. rw (half_bit x v, half_bit y v) (e (suc v) (omega arith))) in
    omega arith

-- Bit by bit

digit_and : (a b : ℕ) → a < 2 → b < 2 → eqb (bit_and a b) 1 ≡ (eqb a 1 && eqb b 1)
digit_and zero b h g = refl
digit_and (suc zero) zero h g = refl
digit_and (suc zero) (suc zero) h g = refl
digit_and (suc zero) (suc (suc b)) h g = absurd (omega arith)
digit_and (suc (suc a)) b h g = absurd (omega arith)

digit_or : (a b : ℕ) → a < 2 → b < 2 → eqb (bit_or a b) 1 ≡ (eqb a 1 || eqb b 1)
digit_or zero zero h g = refl
digit_or zero (suc zero) h g = refl
digit_or zero (suc (suc b)) h g = absurd (omega arith)
digit_or (suc zero) zero h g = refl
digit_or (suc zero) (suc zero) h g = refl
digit_or (suc zero) (suc (suc b)) h g = absurd (omega arith)
digit_or (suc (suc a)) b h g = absurd (omega arith)

digit_keeps : (a b : ℕ) → a < 2 → b < 2 → (a ≡ 1 → b ≡ 1) → bit_and a b ≡ a
digit_keeps zero b h g e = refl
digit_keeps (suc zero) b h g e = rw (e refl)
digit_keeps (suc (suc a)) b h g e = absurd (omega arith)

digit_without : (a b : ℕ) → a < 2 → b < 2 → eqb (bit_xor a (bit_and a b)) 1 ≡ (eqb a 1 && not (eqb b 1))
digit_without zero b h g = refl
digit_without (suc zero) zero h g = refl
digit_without (suc zero) (suc zero) h g = refl
digit_without (suc zero) (suc (suc b)) h g = absurd (omega arith)
digit_without (suc (suc a)) b h g = absurd (omega arith)

-- at any place, of numbers of any width
module _ (x y v : ℕ) where
  and_at : bit_and x y / 2 ^ v % 2 ≡ bit_and (x / 2 ^ v % 2) (y / 2 ^ v % 2)
  and_at = ap (λ (m : ℕ). m % 2) (and_shr x y v) ∙ and_mod (x / 2 ^ v) (y / 2 ^ v) 1

  digit_lt : (z : ℕ) → z / 2 ^ v % 2 < 2
  digit_lt z = mod-lt (z / 2 ^ v) (omega arith)

  pub place_and : eqb (bit_and x y / 2 ^ v % 2) 1 ≡ (eqb (x / 2 ^ v % 2) 1 && eqb (y / 2 ^ v % 2) 1)
  place_and = ap (λ (m : ℕ). eqb m 1) and_at ∙ digit_and (x / 2 ^ v % 2) (y / 2 ^ v % 2) (digit_lt x) (digit_lt y)

  pub place_or : eqb (bit_or x y / 2 ^ v % 2) 1 ≡ (eqb (x / 2 ^ v % 2) 1 || eqb (y / 2 ^ v % 2) 1)
  place_or = ap (λ (m : ℕ). eqb m 1) or_at ∙ digit_or (x / 2 ^ v % 2) (y / 2 ^ v % 2) (digit_lt x) (digit_lt y)
    where
      or_at : bit_or x y / 2 ^ v % 2 ≡ bit_or (x / 2 ^ v % 2) (y / 2 ^ v % 2)
      or_at = ap (λ (m : ℕ). m % 2) (or_shr x y v) ∙ or_mod (x / 2 ^ v) (y / 2 ^ v) 1

  pub place_without : eqb (bit_xor x (bit_and x y) / 2 ^ v % 2) 1 ≡ (eqb (x / 2 ^ v % 2) 1 && not (eqb (y / 2 ^ v % 2) 1))
  place_without = ap (λ (m : ℕ). eqb m 1) (xor_at ∙ ap (bit_xor (x / 2 ^ v % 2)) and_at) ∙ digit_without (x / 2 ^ v % 2) (y / 2 ^ v % 2) (digit_lt x) (digit_lt y)
    where
      xor_at : bit_xor x (bit_and x y) / 2 ^ v % 2 ≡ bit_xor (x / 2 ^ v % 2) (bit_and x y / 2 ^ v % 2)
      xor_at = ap (λ (m : ℕ). m % 2) (xor_shr x (bit_and x y) v) ∙ xor_mod (x / 2 ^ v) (bit_and x y / 2 ^ v) 1

  -- the bits of a meet
  pub bit_and_lem : bit_of (bit_and x y) v ≡ (bit_of x v && bit_of y v)
  unfolding bit_of
  bit_and_lem = ap (λ (t : Bool). ltb v 16 && t) place_and ∙ spread (ltb v 16) (eqb (x / 2 ^ v % 2) 1) (eqb (y / 2 ^ v % 2) 1)
    where
      spread : (p q r : Bool) → (p && (q && r)) ≡ ((p && q) && (p && r))
      spread true q r = refl
      spread false q r = refl

  -- the bits of a join
  pub bit_or_lem : bit_of (bit_or x y) v ≡ (bit_of x v || bit_of y v)
  unfolding bit_of
  bit_or_lem = ap (λ (t : Bool). ltb v 16 && t) place_or ∙ spread (ltb v 16) (eqb (x / 2 ^ v % 2) 1) (eqb (y / 2 ^ v % 2) 1)
    where
      spread : (p q r : Bool) → (p && (q || r)) ≡ ((p && q) || (p && r))
      spread true q r = refl
      spread false q r = refl

  -- the bits of a word without those of another
  pub bit_without : bit_of (bit_xor x (bit_and x y)) v ≡ (bit_of x v && not (bit_of y v))
  unfolding bit_of
  bit_without = ap (λ (t : Bool). ltb v 16 && t) place_without ∙ spread (ltb v 16) (eqb (x / 2 ^ v % 2) 1) (eqb (y / 2 ^ v % 2) 1)
    where
      spread : (p q r : Bool) → (p && (q && not r)) ≡ ((p && q) && not (p && r))
      spread true q r = refl
      spread false q r = refl

  -- a slot's bit, as a digit
  bit_digit : v < 16 → bit_of x v ≡ true → x / 2 ^ v % 2 ≡ 1
  unfolding bit_of
  bit_digit h e = eqb-true (x / 2 ^ v % 2) 1 (and_right (ltb v 16) (eqb (x / 2 ^ v % 2) 1) e)

  digit_bit : v < 16 → x / 2 ^ v % 2 ≡ 1 → bit_of x v ≡ true
  unfolding bit_of
  digit_bit h e = rw (lt-ltb v 16 h, eq-eqb (x / 2 ^ v % 2) 1 e)

-- a slot of a word is below 16
pub bit_below : (x v : ℕ) → bit_of x v ≡ true → v < 16
unfolding bit_of
bit_below x v e = ltb-true v 16 (and_left (ltb v 16) (eqb (x / 2 ^ v % 2) 1) e)

-- no slot is in the empty word
pub bit_zero : (v : ℕ) → bit_of 0 v ≡ false
unfolding bit_of
bit_zero v = false_of (bit_of 0 v) (λ e. let h = digit_zero v in let g = bit_digit 0 0 v (bit_below 0 v e) e in omega arith)
  where
    digit_zero : (v : ℕ) → 0 / 2 ^ v % 2 ≡ 0
    digit_zero v = ap (λ (m : ℕ). m % 2) (zero-div (2 ^ v))

-- every slot of x is in y, as the code asks it
pub inside_and : (x y : ℕ) → x < 2 ^ 16 → eqb (bit_and x y) x ≡ inside x y
unfolding inside
inside_and x y h =
    same_truth (eqb (bit_and x y) x) (every (λ v. imp (bit_of x v) (bit_of y v)) 16)
    (λ e. every_true (λ v. imp (bit_of x v) (bit_of y v)) 16 (λ v l. imp_in (bit_of x v) (bit_of y v)
    (λ b. and_right (bit_of x v) (bit_of y v) (sym (bit_and_lem x y v) ∙ ap (λ (m : ℕ). bit_of m v) (eqb-true (bit_and x y) x e) ∙ b))))
    (λ e. eq-eqb (bit_and x y) x (digits_same 16 (bit_and x y) x (let a = and_le_l x y in omega arith) h
    (λ v l. and_at x y v ∙ digit_keeps (x / 2 ^ v % 2) (y / 2 ^ v % 2) (digit_lt x y v x) (digit_lt x y v y)
    (λ d. bit_digit y y v l (imp_out (bit_of x v) (bit_of y v) (every_at (λ v. imp (bit_of x v) (bit_of y v)) 16 v e l) (digit_bit x x v l d))))))

-- every slot of x is in y, slot by slot
pub inside_at : (x y v : ℕ) → inside x y ≡ true → bit_of x v ≡ true → bit_of y v ≡ true
unfolding inside
inside_at x y v e b = imp_out (bit_of x v) (bit_of y v) (every_at (λ v. imp (bit_of x v) (bit_of y v)) 16 v e (bit_below x v b)) b

-- Places in the tie table

-- beyond the end of a table stands 0
pub beyond : (l : List ℕ) (i : ℕ) → length l ≤ i → 0 ≡ get_or l i 0
beyond l i h = sym (get_or-eq_default l 0 h)

-- n lots, at most 24, make a small square
pub square_small : {n : ℕ} → n ≤ 24 → n * n ≤ 576
square_small h = mul-le-mul h h
