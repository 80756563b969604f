-- `mend::set_of` meets its contract: the set has those of the lots asked that pass.
use mathlib.Core.Path.{◌∙◌, ap}
use lib.Bits.{bit_or}
use Rattle.mend.proofs.Sets.{answers_yes, answers_no}
use Rattle.mend.proofs.set_of.Goals as goal
use Rattle.mend.proofs.set_of.Goals.{then-test, else-test}

pub loop-p-preserved : goal.loop-p-preserved
loop-p-preserved g c =
    let P = λ (p : _) (b : _). g.F.Fn.post c.args.test (p, tt) b in
    let l = c.loop-p in
    elim c.if-test.branch [
      | then-test w ↦ rw w.set-is (answers_yes P l.p l.set.0 l.invariant _ w.if-test.ensures (w.bitor_assign.ensures.after ∙ ap (bit_or l.set.0) w.only.ensures))
      | else-test w ↦ rw w.set-is (answers_no P l.p l.set.0 l.invariant w.if-test.ensures)
    ]
