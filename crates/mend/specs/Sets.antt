-- A set of lots as the bits of a number: bit p says whether lot p is in it. Assumes nothing.
use Rattle.std.specs.Prelude.{◌≡◌, Bool, ℕ, ◌/◌, ◌%◌, ◌^◌, ◌<◌, eqb}
use Rattle.std.specs.Int.Bits.{bit_and, bit_xor}

-- lot p is in the set k
unfoldable pub has : ℕ → ℕ → Bool
has k p = eqb (k / 2 ^ p % 2) 1

-- k is the set of those of n lots that pass f
pub record SetOf (n : ℕ) (f : ℕ → Bool) (k : ℕ) : Type 0 where
  pub low : k < 2 ^ n
  pub each : (p : ℕ) → p < n → has k p ≡ f p

-- the lots of the set k that are not in the set j
unfoldable pub minus : ℕ → ℕ → ℕ
minus k j = bit_xor k (bit_and k j)
