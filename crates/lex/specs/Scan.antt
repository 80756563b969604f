-- A scan: the first number from some number on, below k, that passes a test.
-- Assumes nothing.
use Rattle.std.specs.Prelude.{Bool, cond, ℕ, zero, suc, ◌-◌}

-- the first of the c numbers from v on that passes f, or the number behind them
unfoldable pub scan : (ℕ → Bool) → ℕ → ℕ → ℕ
scan f zero v = v
scan f (suc c) v = let r = scan f c (suc v) in cond (f v) v r

-- the first number from v on, below k, that passes f; k or more where there is none
unfoldable pub scan_from : ℕ → (ℕ → Bool) → ℕ → ℕ
scan_from k f v = scan f (k - v) v
