-- `week::Rules::fits_at` meets its contract: the slot is in the domain, and every lot before stands beside it.
use mathlib.Core.Path.{◌≡◌, refl, sym, ◌∙◌}
use Rattle.std.proofs.Common.{rules, tests}
use Rattle.lex.specs.Every.{every}
use Rattle.lex.proofs.Ranges.{all_range}
use Rattle.week.specs.Rules.{rules_of, beside, fits}
use Rattle.week.proofs.Rules.fits_at.Goals as goal

pub returns-then-has_slot : goal.returns-then-has_slot
unfolding fits
returns-then-has_slot c =
    let P = beside (rules_of c.args.self.now) c.args.order.now c.args.p.0 c.args.v.0 in
    let e : c.all.result ≡ every P c.args.p.0 = all_range _ _ _ _ P _ refl (λ x b q k. search (rules, tests)) c.all.ensures.ran in
    rw (sym c.has_slot.ensures ∙ c.if-has_slot.true) e

pub returns-else-has_slot : goal.returns-else-has_slot
unfolding fits
returns-else-has_slot c = rw (sym c.has_slot.ensures ∙ c.if-has_slot.false) c.if-has_slot.false
