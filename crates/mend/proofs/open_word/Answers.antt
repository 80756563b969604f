-- `mend::open_word` meets its contract: the word has the slots beside the decided ones of the lots passed.
use native.Mathlib.Omega.{arith}
use Rattle.week.specs.Rules.{rules_of}
use Rattle.week.specs.Tables.{lent}
use Rattle.mend.proofs.Opens.{opens_start, opens_yes, opens_no, opens_end}
use Rattle.mend.proofs.open_word.Goals as goal
use Rattle.mend.proofs.open_word.Goals.{then-w-lt16, else-w-lt16}

pub loop-q-init : goal.loop-q-init
loop-q-init c = opens_start (rules_of c.rules-rules.result) c.args.slots.now c.args.x.0 _ c.word_of-own.ensures

pub loop-q-preserved : goal.loop-q-preserved
loop-q-preserved c =
    let R = rules_of c.rules-rules.result in
    let l = c.loop-q in
    elim c.if-w-lt16.branch [
      | then-w-lt16 w ↦ opens_yes R c.args.slots.now c.args.x.0 l.q l.own l.invariant _ _ _ c.slot_in-w.ensures w.if-w-lt16.true w.tie_word-own.ensures w.own-is
      | else-w-lt16 w ↦ opens_no R c.args.slots.now c.args.x.0 l.q l.own l.invariant _ _ c.slot_in-w.ensures w.if-w-lt16.false w.own-is
    ]

pub returns : goal.returns
returns c =
    let l = c.loop-q in
    opens_end (rules_of c.rules-rules.result) c.args.slots.now c.args.x.0 l.q l.own l.invariant (lent c.args.case.now.week) c.rules-rules.ensures.same (omega arith)
