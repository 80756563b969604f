-- `hope::blamed` meets its contract: of the lots passed those in the part take slots outside the target from the lot, and the rest has what they all leave.
use mathlib.Core.Path.{sym, ◌∙◌}
use native.Mathlib.Omega.{arith}
use borrow.Author.Tests.{eqb-false}
use Rattle.hope.proofs.Blame.{blaming_start, blamed_early, blaming_within, blaming_take, blamed_end}
use Rattle.hope.proofs.blamed.Goals as goal

pub loop-p-init : goal.loop-p-init
loop-p-init c = blaming_start _ _ _ _ _ c.requires c.word_of-own.ensures c.ranges.target.fits

pub returns-then-rest-eq0 : goal.returns-then-rest-eq0
returns-then-rest-eq0 c = blamed_early c.loop-p.invariant c.if-rest-eq0.true

pub loop-p-preserved-then-within : goal.loop-p-preserved-then-within
loop-p-preserved-then-within c =
    blaming_within c.loop-p.invariant _ _ c.slot_in-v.ensures c.tie_word-tie.ensures (omega arith) c.loop-p-test.true
    (sym c.within.ensures ∙ c.if-within.true)

pub loop-p-preserved : goal.loop-p-preserved
loop-p-preserved c =
    rw c.from.ensures
    (blaming_take c.loop-p.invariant _ _ c.slot_in-v.ensures c.tie_word-tie.ensures (omega arith) c.loop-p-test.true
    (eqb-false _ _ (sym c.eq.ensures ∙ c.if-eq.false)))

pub returns : goal.returns
returns c = blamed_end c.loop-p.invariant c.loop-p-test.false
