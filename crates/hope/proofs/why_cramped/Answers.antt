-- `hope::why_cramped` meets its contract: the part is asked whether it alone has the break and no repair with room.
use mathlib.Core.Path.{sym, ◌∙◌}
use native.Mathlib.Omega.{arith}
use Rattle.week.specs.Tables.{lent}
use Rattle.hope.proofs.Safe.{going_few, struck_part, part_fewer, part_merged, alone_roomed}
use Rattle.hope.proofs.why_cramped.Goals as goal

pub words_of-words-requires : goal.words_of-words-requires
words_of-words-requires c = omega (arith, going_few c.requires.0)

pub own_groups-groups-requires : goal.own_groups-groups-requires
own_groups-groups-requires c = going_few c.requires.0

pub has_roomy_repair-requires : goal.has_roomy_repair-requires
has_roomy_repair-requires c =
    let few = going_few c.requires.0 in
    let part = part_merged few (part_fewer few c.narrowed-part.ensures) c.pressed.ensures c.merge.ensures in
    let made = rw (c.rules-rules.ensures.lots, c.rules-rules.ensures.domain, c.rules-rules.ensures.ties) at c.words_of-words.ensures in (
      struck_part _ _ _ _ c.requires.1.1.0 part (sym c.is_break.ensures ∙ c.if-not-is_break.false),
      alone_roomed (lent c.args.at.now.week) _ _ _ _ _ _ c.requires.0 c.requires.1.0 made c.own_groups-groups.ensures,
    )
