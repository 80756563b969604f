-- `repair::Case::may_go` meets its contract.
use mathlib.Core.Path.{sym, ◌∙◌}
use Rattle.repair.proofs.Mends.{go_helper, go_lost, go_other}
use Rattle.repair.proofs.Case.may_go.Goals as goal

pub returns-then-not-helps_slot : goal.returns-then-not-helps_slot
returns-then-not-helps_slot c = go_helper _ _ _ _ c.slot_in-w.ensures (sym c.helps_slot.ensures ∙ c.if-not-helps_slot.true)

pub returns-then-has : goal.returns-then-has
returns-then-has c = c.replaces_slot.ensures ∙ go_lost _ _ _ _ c.slot_in-w.ensures (sym c.helps_slot.ensures ∙ c.if-not-helps_slot.false) (sym c.has.ensures ∙ c.if-has.true)

pub returns : goal.returns
returns c =
    c.yields_slot.ensures
    ∙ go_other _ _ _ _ c.slot_in-w.ensures _ c.word_of.ensures (sym c.helps_slot.ensures ∙ c.if-not-helps_slot.false) (sym c.has.ensures ∙ c.if-has.false)
