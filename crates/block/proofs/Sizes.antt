-- How large a file of at most 24 lots is.
-- Assumes nothing.
use mathlib.Core.Path.{◌≡◌}
use Prim.Native.Nat.{ℕ, ◌+◌, ◌*◌, ◌-◌, ◌/◌, ◌≤◌}
use Rattle.std.specs.Int.{div_ceil}
use native.Mathlib.Nat.{mul-le-mul}
use native.Mathlib.Omega.{arith}
use Rattle.block.specs.Content.{content_size}
use Rattle.block.specs.File.{blocks}

-- at most 8,982 bytes of content
pub size_small : (n : ℕ) → n ≤ 24 → content_size n ≤ 8982
unfolding content_size
size_small n h = let m : n * (n - 1) ≤ 24 * 23 = mul-le-mul {m₂ = 23} h (omega arith) in omega arith

pub size_some : (n : ℕ) → 6 ≤ content_size n
unfolding content_size
size_some n = omega arith

-- six bytes, and the words of the tables
pub size_words : (n : ℕ) → content_size n ≡ 6 + 2 * (3 * n + 8 * (n * (n - 1)))
unfolding content_size
size_words n = omega arith

-- so at most 18 blocks, and at least one; the content fits them, and they are no more than needed
pub blocks_small : (n : ℕ) → n ≤ 24 → blocks n ≤ 18
unfolding blocks
blocks_small n h = let s = size_small n h in omega arith

pub blocks_some : (n : ℕ) → 1 ≤ blocks n
unfolding blocks
blocks_some n = let s = size_some n in omega arith

pub blocks_hold : (n : ℕ) → content_size n ≤ blocks n * 504
unfolding blocks
blocks_hold n = omega arith

-- the content, rounded up to whole blocks
pub rounded_up : (s : ℕ) → div_ceil s 504 ≡ (s + 503) / 504
rounded_up s = grind (arith, div_ceil)
