-- `pairs::pair_number` meets its contract: the formula gives the number of a pair.
use mathlib.Core.Path.{sym}
use Prim.Native.Nat.{ℕ, ◌+◌, ◌-◌, ◌*◌, ◌≤◌}
use native.Mathlib.Omega.{arith}
use native.Mathlib.Nat.{mul-le-mul}
use Rattle.pairs.proofs.Numbers.{number_of}
use Rattle.pairs.proofs.pair_number.Goals as goal

-- the product of the formula is small
small : (n p : ℕ) → n ≤ 24 → p ≤ 24 → p * (n + n - p - 1) ≤ 24 * 48
small n p h g = mul-le-mul {n₁ = p} {m₁ = n + n - p - 1} {n₂ = 24} {m₂ = 48} g (omega arith)

pub overflow_mul-result : goal.overflow_mul-result
overflow_mul-result c = omega (arith, small c.args.n c.from-low.result (omega arith) (omega arith))

pub overflow_add-result-2 : goal.overflow_add-result-2
overflow_add-result-2 c = omega (arith, small c.args.n c.from-low.result (omega arith) (omega arith))

pub returns : goal.returns
returns c =
    rw (c.from-low.ensures, c.from-high.ensures)
    (sym (number_of c.args.n c.requires.1.1 c.args.p.0 c.args.q.0 c.requires.0 c.requires.1.0).formula)
