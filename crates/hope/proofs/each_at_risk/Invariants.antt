use Rattle.std.proofs.Common.{ℕ, ◌≤◌, ◌<◌, Ok}
use Rattle.hope.specs.Safe.{RisksAt}
use Rattle.hope.proofs.each_at_risk.Given as goal

abbrev pub invariant-loop-p : goal.invariant-loop-p
invariant-loop-p g l = (x : ℕ) → l.from ≤ x → x < l.p → RisksAt l.at x → goal.F-post g l.judge (record { 0 = x }) (Ok tt)
