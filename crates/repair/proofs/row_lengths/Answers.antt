-- `repair::row_lengths` meets its contract.
use native.Mathlib.Nat.{mul-le-mul}
use native.Mathlib.Omega.{arith}
use Rattle.repair.proofs.Rows.{count_small}
use Rattle.repair.proofs.row_lengths.Goals as goal

pub overflow_mul-result : goal.overflow_mul-result
overflow_mul-result c =
    let k = count_small c.args.n c.args.a c.requires.1.0 c.requires.1.1 in
    omega (arith, mul-le-mul {n₁ = c.row_count.result} {m₁ = c.args.n} {n₂ = 600} {m₂ = 24} (omega arith) c.requires.1.0)
