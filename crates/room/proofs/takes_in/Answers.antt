-- `room::takes_in` meets its contract: `all` asks every lot before.
use mathlib.Core.Path.{refl, sym, ◌∙◌}
use Rattle.std.proofs.Common.{rules, tests}
use Rattle.lex.proofs.Ranges.{all_range}
use Rattle.room.specs.Grouped.{bears, takes_in}
use Rattle.room.proofs.takes_in.Goals as goal

pub returns-then-eq : goal.returns-then-eq
unfolding takes_in
returns-then-eq c =
    rw (← c.group_of.ensures, sym c.eq.ensures ∙ c.if-eq.true)
    (all_range _ _ _ _ (bears c.args.rules.now.lots c.args.rules.now.ties.now c.args.groups.now c.args.p.0 c.args.g.0) c.args.p.0 refl (λ x b q k. search (rules, tests)) c.all.ensures.ran)

pub returns-else-eq : goal.returns-else-eq
unfolding takes_in
returns-else-eq c = rw (← c.group_of.ensures, sym c.eq.ensures ∙ c.if-eq.false) c.if-eq.false
