-- `tables::words_ok` meets its contract: every lot is right.
use mathlib.Core.Path.{refl}
use Rattle.std.proofs.Common.{rules, tests}
use Rattle.lex.proofs.Ranges.{all_range}
use Rattle.week.specs.Tables.{lot_ok_at, words_ok}
use Rattle.tables.proofs.words_ok.Goals as goal

pub returns : goal.returns
unfolding words_ok
returns c = all_range _ _ _ _ (lot_ok_at c.args.week.now.domain.now c.args.week.now.loss.now c.args.week.now.give.now) _ refl (λ x b q k. search (rules, tests)) c.all.ensures.ran
