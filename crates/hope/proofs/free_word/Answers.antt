-- `hope::free_word` meets its contract: each shift leaves the slots beyond.
use native.Mathlib.Omega.{arith}
use Rattle.hope.proofs.Safe.{frees_none, frees_gap, frees_help, frees_else}
use Rattle.hope.proofs.free_word.Goals as goal

pub returns-then-at-ge16 : goal.returns-then-at-ge16
returns-then-at-ge16 c = frees_none _ _

pub returns-then-from-ge15 : goal.returns-then-from-ge15
returns-then-from-ge15 c = frees_none _ _

pub returns-then-numbers-eq1 : goal.returns-then-numbers-eq1
returns-then-numbers-eq1 c = frees_gap _ _ _ (omega arith) (omega arith)

pub returns-then-numbers-eq1-2 : goal.returns-then-numbers-eq1-2
returns-then-numbers-eq1-2 c = frees_help _ _ c.if-numbers-eq1.false c.if-at-ge16.false

pub returns : goal.returns
returns c = frees_else _ _ c.if-numbers-eq1.false c.if-at-ge16.false c.if-numbers-eq1-2.false
