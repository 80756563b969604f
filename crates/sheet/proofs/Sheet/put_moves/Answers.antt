-- `sheet::Sheet::put_moves` meets its contract: a save that is accepted has room.
use mathlib.Core.Path.{sym}
use Rattle.week.specs.Tables.{lent}
use Rattle.sheet.proofs.Services.{save_passed}
use Rattle.sheet.proofs.Sheet.put_moves.Goals as goal

pub moved-requires : goal.moved-requires
moved-requires c = (save_passed (lent c.args.week.now) c.args.self c.args.copy c.args.moves.now (sym c.in_ok-judge.ensures)).room
