-- `hope::why_crowded` meets its contract: the part is asked whether it alone leaves too little room.
use mathlib.Core.Path.{sym, ◌∙◌}
use native.Mathlib.Omega.{arith}
use Rattle.week.specs.Tables.{lent}
use Rattle.room.proofs.None.{slack_none}
use Rattle.hope.proofs.Safe.{going_few, why_part, alone_roomed}
use Rattle.hope.proofs.why_crowded.Goals as goal

pub words_of-words-requires : goal.words_of-words-requires
words_of-words-requires c = omega (arith, going_few c.requires.0)

pub own_groups-groups-requires : goal.own_groups-groups-requires
own_groups-groups-requires c = going_few c.requires.0

pub slack-requires : goal.slack-requires
slack-requires c = going_few c.requires.0

pub returns-then-slack-eq0 : goal.returns-then-slack-eq0
returns-then-slack-eq0 c =
    let made = rw (c.rules-rules.ensures.lots, c.rules-rules.ensures.domain, c.rules-rules.ensures.ties) at c.words_of-words.ensures in
    let room = alone_roomed (lent c.args.at.now.week) _ _ _ _ _ _ c.requires.0 c.requires.1.0 made c.own_groups-groups.ensures in
    (c.pressed-part.ensures.size, why_part _ _ _ c.pressed-part.ensures (slack_none _ _ _ _ room.forward room.exclusive (sym c.slack.ensures ∙ c.if-slack-eq0.true)))
