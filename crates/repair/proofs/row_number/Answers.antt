-- `repair::row_number` meets its contract: a loss of one lot has the row of its number, one of two lots stands behind those.
use mathlib.Core.Path.{◌∙◌, ap}
use Prim.Native.Nat.{ℕ, ◌+◌, ◌-◌}
use native.Mathlib.Omega.{arith}
use borrow.Author.Tests.{true-eqb, false-eqb}
use Rattle.repair.proofs.Numbering.{pair_below}
use Rattle.repair.proofs.Rows.{row_single, row_pair, product_small}
use Rattle.repair.proofs.row_number.Goals as goal

pub returns-then-eq : goal.returns-then-eq
returns-then-eq c = c.from.ensures ∙ row_single c.args.n c.args.lost (true-eqb _ _ c.if-eq.ensures) c.requires.1.1

pub overflow_add-result : goal.overflow_add-result
overflow_add-result c =
    let apart = false-eqb _ _ c.if-eq.ensures in
    let below = pair_below c.args.n c.requires.0 c.args.lost.0.0 c.args.lost.1.0 (omega (arith, apart)) c.requires.1.1 in
    omega (arith, below, product_small {x = c.args.n} {y = c.args.n - 1} (omega arith) (omega arith))

pub returns : goal.returns
returns c =
    let apart = false-eqb _ _ c.if-eq.ensures in
    ap (λ (k : ℕ). c.args.n + k) c.pair_number.ensures ∙ row_pair c.args.n c.args.lost (omega (arith, apart))
