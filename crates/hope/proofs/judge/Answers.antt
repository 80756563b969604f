-- `hope::judge` meets its contract: each test in its turn.
use mathlib.Core.Path.{◌≡◌, sym, ◌∙◌}
use native.Mathlib.Omega.{arith}
use Rattle.room.proofs.None.{slack_none}
use Rattle.hope.proofs.Safe.{going_few}
use Rattle.hope.proofs.judge.Goals as goal

pub slack-spare-requires : goal.slack-spare-requires
slack-spare-requires c = going_few c.requires.0

pub why_crowded-requires : goal.why_crowded-requires
why_crowded-requires c =
    let none : c.slack-spare.result ≡ 0 = omega arith in
    (c.requires.0, (c.requires.1, slack_none _ _ _ _ c.requires.0.forward c.requires.1 (sym c.slack-spare.ensures ∙ none)))
