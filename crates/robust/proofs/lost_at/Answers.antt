-- `robust::lost_at` meets its contract: a row below n stands for its lot, one behind those for its pair.
use mathlib.Core.Path.{refl, sym, ◌∙◌}
use Prim.Native.Nat.{◌-◌}
use native.Mathlib.Omega.{arith}
use Rattle.pairs.proofs.Numbers.{pair_of}
use Rattle.robust.proofs.Rows.{set_single, set_pair, pair_row, lost_single, lost_numbered}
use Rattle.robust.proofs.lost_at.Goals as goal

pub returns-then-i-lots : goal.returns-then-i-lots
returns-then-i-lots c = lost_single c.args.i _ refl refl ∙ sym (set_single c.args.n c.args.i c.if-i-lots.true)

pub returns : goal.returns
returns c =
    lost_numbered c.args.n c.requires.1.0 (c.args.i - c.args.n) _ c.pair_at-pair.ensures.0 c.pair_at-pair.ensures.1
    (pair_of c.args.n c.requires.1.0 (c.args.i - c.args.n) (pair_row c.args.n c.requires.1.0 c.args.i (omega arith) c.requires.1.1))
    ∙ sym (set_pair c.args.n c.args.i (omega arith))
