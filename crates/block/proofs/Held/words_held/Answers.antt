-- `block::Held::words_held` meets its contract: every lot is asked.
use mathlib.Core.Path.{refl}
use borrow.Author.Rules.{rules}
use borrow.Author.Tests.{tests}
use Rattle.lex.proofs.Ranges.{all_range}
use Rattle.week.specs.Tables.{words_ok}
use Rattle.block.proofs.Held.words_held.Goals as goal

pub returns : goal.returns
unfolding words_ok
returns c = all_range _ _ _ _ _ _ refl (λ x b q k. search (rules, tests)) c.all.ensures.ran
