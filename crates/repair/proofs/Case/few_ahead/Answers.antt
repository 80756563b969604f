-- `repair::Case::few_ahead` meets its contract: the lots passed that must move may, and are counted.
use mathlib.Core.Path.{sym, ◌∙◌}
use native.Mathlib.Omega.{arith}
use Rattle.repair.proofs.Ahead.{run_start, run_stays, run_moves, run_many, run_fixed, run_done}
use Rattle.repair.proofs.Walks.{count_other, count_low}
use Rattle.repair.proofs.Case.few_ahead.Goals as goal
use Rattle.repair.proofs.Case.few_ahead.Goals.{then-self-all-via-then-self-all, then-self-all-via-else-self-all+then-not-gives}
use Rattle.repair.proofs.Case.few_ahead.Goals.{then-must_move+else-self-all+else-not-gives, else-must_move}

pub overflow_add-all : goal.overflow_add-all
overflow_add-all c = omega (arith, count_low _ _ _ _ _ c.requires.counts.moved c.from.ensures, c.requires.counts.next, c.requires.counts.few)

pub loop-q-init : goal.loop-q-init
loop-q-init c =
    run_start _ _ _ _ _ _ c.requires.counts.next
    (omega (arith, count_other _ _ _ _ _ c.requires.counts.moved c.from.ensures _ c.moves_to.ensures, c.requires.counts.moved, c.requires.few))

pub returns-then-self-all : goal.returns-then-self-all
returns-then-self-all c =
    let begun = count_other _ _ _ _ _ c.requires.counts.moved c.from.ensures _ c.moves_to.ensures in
    elim c.then-self-all.branch [
      | then-self-all-via-then-self-all w ↦
          run_many c.loop-q.invariant c.loop-q-test.true c.must_move.ensures begun c.if-must_move.true w.if-self-all.true
      | then-self-all-via-else-self-all+then-not-gives w ↦
          run_fixed c.loop-q.invariant c.loop-q-test.true c.must_move.ensures c.if-must_move.true (sym w.gives.ensures ∙ w.if-not-gives.true)
    ]

pub loop-q-preserved : goal.loop-q-preserved
loop-q-preserved c =
    elim c.if-must_move.branch [
      | then-must_move+else-self-all+else-not-gives w ↦
          run_moves c.loop-q.invariant c.loop-q-test.true c.must_move.ensures _ w.if-must_move.true w.if-self-all.false
          (sym w.gives.ensures ∙ w.if-not-gives.false) w.all-is
      | else-must_move w ↦ run_stays c.loop-q.invariant c.loop-q-test.true c.must_move.ensures _ w.if-must_move.false w.all-is
    ]

pub returns : goal.returns
returns c = run_done c.loop-q.invariant (count_other _ _ _ _ _ c.requires.counts.moved c.from.ensures _ c.moves_to.ensures) c.loop-q-test.false
