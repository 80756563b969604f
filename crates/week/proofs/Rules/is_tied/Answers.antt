-- `week::Rules::is_tied` meets its contract: different lots are tied where some slot is not free.
use mathlib.Core.Bool.{not}
use mathlib.Core.Path.{◌≡◌, refl, sym, ◌∙◌, ap}
use Rattle.std.proofs.Common.{rules, tests}
use Rattle.lex.specs.Every.{every}
use Rattle.lex.proofs.Ranges.{all_range}
use Rattle.week.specs.Rules.{rules_of, free, tied}
use Rattle.week.proofs.Rules.is_tied.Goals as goal

pub returns-then-ne : goal.returns-then-ne
unfolding tied
returns-then-ne c =
    let P = free (rules_of c.args.self.now) c.args.p.0 c.args.q.0 in
    let e : c.all.result ≡ every P 16 = all_range _ _ _ _ P 16 refl (λ x b q k. search (rules, tests)) c.all.ensures.ran in
    rw (sym c.ne.ensures ∙ c.if-ne.true) (ap not e)

pub returns-else-ne : goal.returns-else-ne
unfolding tied
returns-else-ne c = rw (sym c.ne.ensures ∙ c.if-ne.false) c.if-ne.false
