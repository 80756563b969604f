-- `room::words_of` meets its contract: the lots passed have taken their slots.
use mathlib.Core.Path.{sym, ◌∙◌}
use Rattle.room.proofs.Words.{met_start, met_skip, met_place}
use Rattle.room.proofs.words_of.Goals as goal
use Rattle.room.proofs.words_of.Goals.{then-is_placed, else-is_placed}

pub loop-p-init : goal.loop-p-init
loop-p-init c = met_start _ _ _ _ _ c.first_words-words.ensures

pub loop-p-preserved : goal.loop-p-preserved
loop-p-preserved c =
    elim c.if-is_placed.branch [
      | then-is_placed w ↦ rw w.words-is (met_place _ _ _ _ _ _ _ _ (sym c.is_placed.ensures ∙ w.if-is_placed.true) w.slot_in.ensures c.loop-p.invariant w.met_words-words.ensures)
      | else-is_placed w ↦ rw w.words-is (met_skip _ _ _ _ _ _ (sym c.is_placed.ensures ∙ w.if-is_placed.false) c.loop-p.invariant)
    ]
