-- `repair::Case::count_moves` meets its contract: the lots passed are counted.
use mathlib.Core.Path.{◌≡◌, refl}
use native.Mathlib.Omega.{arith}
use Rattle.lex.specs.Every.{count}
use Rattle.repair.proofs.Walks.{count_more, count_low}
use Rattle.repair.proofs.Case.count_moves.Goals as goal

pub loop-p-init : goal.loop-p-init
unfolding count
loop-p-init c = refl

pub overflow_add-moved : goal.overflow_add-moved
overflow_add-moved c = omega (arith, count_low _ _ _ _ _ c.loop-p.invariant c.from-moved.ensures)

pub loop-p-preserved : goal.loop-p-preserved
loop-p-preserved c = count_more _ _ _ _ _ c.loop-p.invariant c.from-moved.ensures c.moves_at.ensures

pub returns : goal.returns
returns c =
    let e : c.loop-p.p ≡ c.args.d = omega arith in
    rw (← e) c.loop-p.invariant
