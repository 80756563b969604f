-- `room::is_apart` meets its contract: `all` asks every slot.
use mathlib.Core.Path.{refl}
use mathlib.Core.Bool.{not}
use Rattle.std.proofs.Common.{rules, tests}
use Rattle.week.specs.Rules.{together}
use Rattle.lex.proofs.Ranges.{all_range}
use Rattle.room.specs.Grouped.{meet, apart}
use Rattle.room.proofs.is_apart.Goals as goal

pub returns : goal.returns
unfolding apart meet together
returns c = all_range _ _ _ _ (λ v. not (meet c.args.rules.now.lots c.args.rules.now.ties.now c.args.p.0 c.args.q.0 v)) 16 refl (λ x b q k. search (rules, tests)) c.all.ensures.ran
