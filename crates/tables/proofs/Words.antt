-- The word that has one slot alone: what it has in common with another tells whether the slot is in that. Assumes nothing.
use mathlib.Core.Path.{◌≡◌, refl, sym, ◌∙◌, ap}
use mathlib.Core.Bool.{Bool, true, false, ◌&&◌, not, cond}
use Prim.Native.Nat.{ℕ, zero, suc, ◌*◌, ◌/◌, ◌%◌, ◌^◌, ◌<◌}
use native.Mathlib.Nat.{mod-lt}
use native.Mathlib.Omega.{arith}
use Rattle.std.specs.Int.Bits.{bit_and, and_zero_r}
use lib.Dec.{eqb, ltb}
use borrow.Author.Tests.{eq-eqb, ne_eqb}
use Rattle.std.proofs.lemmas.Nat.Bits.{and_pow}
use Rattle.std.proofs.lemmas.Nat.{pow_pos}
use Rattle.week.specs.Rules.{bit_of}

-- by the digit of the slot
digit_meets : (d m : ℕ) → d < 2 → 0 < m → not (eqb (d * m) 0) ≡ eqb d 1
digit_meets zero m h g = ap not (eq-eqb (0 * m) 0 (omega arith)) ∙ sym (ne_eqb 0 1 (λ e. omega arith))
digit_meets (suc zero) m h g = ap not (ne_eqb (1 * m) 0 (λ e. omega arith)) ∙ sym (eq-eqb 1 1 refl)
digit_meets (suc (suc d)) m h g = absurd (omega arith)

pub meets_slot : (x v : ℕ) → not (eqb (bit_and x (cond (ltb v 16) (2 ^ v) 0)) 0) ≡ bit_of x v
unfolding bit_of
meets_slot x v = by (ltb v 16)
  where
    by : (b : Bool) → not (eqb (bit_and x (cond b (2 ^ v) 0)) 0) ≡ (b && eqb (x / 2 ^ v % 2) 1)
    by true = rw (and_pow x v) (digit_meets (x / 2 ^ v % 2) (2 ^ v) (mod-lt (x / 2 ^ v) (omega arith)) (pow_pos v))
    by false = rw (and_zero_r x) refl
