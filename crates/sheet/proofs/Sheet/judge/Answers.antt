-- `sheet::Sheet::judge` meets its contract: the week's rules are in order wherever a check takes them.
use Rattle.week.specs.Tables.{lent}
use Rattle.sheet.proofs.Services.{lawful}
use Rattle.sheet.proofs.Sheet.judge.Goals as goal

pub is_sound-requires : goal.is_sound-requires
is_sound-requires c = lawful (lent c.args.week.now) _ c.rules-rules.ensures.same c.in_ok-judge.ensures

pub moves_ok-requires : goal.moves_ok-requires
moves_ok-requires c = (lawful (lent c.args.week.now) _ c.rules-rules.ensures.same c.in_ok-judge.ensures).0

pub all_fresh-requires : goal.all_fresh-requires
all_fresh-requires c = (lawful (lent c.args.week.now) _ c.rules-rules.ensures.same c.in_ok-judge.ensures).0

pub result_ok-requires : goal.result_ok-requires
result_ok-requires c = lawful (lent c.args.week.now) _ c.rules-rules.ensures.same c.in_ok-judge.ensures
