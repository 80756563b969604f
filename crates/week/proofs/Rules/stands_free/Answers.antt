-- `week::Rules::stands_free` meets its contract.
use mathlib.Core.Path.{sym, ◌∙◌}
use Rattle.week.specs.Rules.{rules_of}
use Rattle.week.proofs.Standing.{free_in}
use Rattle.week.proofs.Rules.stands_free.Goals as goal

pub returns-else-not-has_slot : goal.returns-else-not-has_slot
returns-else-not-has_slot c =
    c.within.ensures
    ∙ rw (c.word_of.ensures, c.tie_word.ensures)
    (free_in (rules_of c.args.self.now) c.args.p.0 c.args.q.0 c.args.v.0 (sym c.has_slot.ensures ∙ c.if-not-has_slot.false))
