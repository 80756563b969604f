-- `room::first_group` meets its contract: `find` asks the lots before, in turn.
use mathlib.Core.Path.{refl, ◌∙◌}
use Rattle.std.proofs.Common.{rules, tests}
use Rattle.room.specs.Grouped.{takes_in}
use Rattle.room.proofs.Finds.{find_range}
use Rattle.room.proofs.first_group.Goals as goal

pub returns : goal.returns
returns c =
    c.unwrap_or.ensures
    ∙ find_range _ _ _ c.find-first.result (takes_in c.args.rules.now.lots c.args.rules.now.ties.now c.args.groups.now c.args.p.0) c.args.p.0 refl (λ x b q k. search (rules, tests)) c.find-first.ensures.ran
