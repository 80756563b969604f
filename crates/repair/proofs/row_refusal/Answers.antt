-- `repair::row_refusal` meets its contract: each test in its turn.
use mathlib.Core.Path.{sym, ◌∙◌}
use Rattle.repair.proofs.Rows.{numbers_read, row_numbers_bad, row_lost_bad, row_lengths_bad, row_good}
use Rattle.repair.proofs.row_refusal.Goals as goal
use Rattle.repair.proofs.row_refusal.Goals.{then-not-row_numbers-via-then-not-row_numbers, then-not-row_numbers-via-else-not-row_numbers+then-not-lost_ok}

pub returns-then-not-row_numbers : goal.returns-then-not-row_numbers
returns-then-not-row_numbers c =
    elim c.then-not-row_numbers.branch [
      | then-not-row_numbers-via-then-not-row_numbers w ↦ row_numbers_bad _ _ _ _ _ (sym c.row_numbers.ensures ∙ w.if-not-row_numbers.true)
      | then-not-row_numbers-via-else-not-row_numbers+then-not-lost_ok w ↦ row_lost_bad _ _ _ _ _ (sym w.lost_ok.ensures ∙ w.if-not-lost_ok.true)
    ]

pub row_lengths-requires : goal.row_lengths-requires
row_lengths-requires c = numbers_read _ _ (sym c.row_numbers.ensures ∙ c.if-not-row_numbers.false)

pub returns-then-not-row_lengths : goal.returns-then-not-row_lengths
returns-then-not-row_lengths c =
    row_lengths_bad _ _ _ _ _ (sym c.row_numbers.ensures ∙ c.if-not-row_numbers.false) (sym c.lost_ok.ensures ∙ c.if-not-lost_ok.false)
    (sym c.row_lengths.ensures ∙ c.if-not-row_lengths.true)

pub returns : goal.returns
returns c =
    row_good _ _ _ _ _ (sym c.row_numbers.ensures ∙ c.if-not-row_numbers.false) (sym c.lost_ok.ensures ∙ c.if-not-lost_ok.false)
    (sym c.row_lengths.ensures ∙ c.if-not-row_lengths.false)
