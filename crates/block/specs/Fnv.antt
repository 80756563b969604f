-- 32-bit FNV-1a.
-- Assumes nothing.
use Rattle.std.specs.Prelude.{List, [], ◌∷◌, ℕ, ◌*◌, ◌%◌, ◌^◌}
use Rattle.std.specs.Int.Bits.{bit_xor}

-- a byte goes into the hash: exclusive or, then times the prime, modulo 2 ^ 32
unfoldable pub fnv_step : ℕ → ℕ → ℕ
fnv_step h b = bit_xor h b * 16777619 % 2 ^ 32

unfoldable pub fnv_from : ℕ → List ℕ → ℕ
fnv_from h [] = h
fnv_from h (b ∷ s) = fnv_from (fnv_step h b) s

-- the hash of bytes, from the offset basis
unfoldable pub fnv : List ℕ → ℕ
fnv s = fnv_from 2166136261 s
