-- `sheet::each_ok` meets its contract.
use borrow.Author.Rules.{rules}
use borrow.Author.Tests.{tests}
use Rattle.sheet.specs.Moves.{move_ok}
use Rattle.sheet.proofs.Pairs.{all_moves}
use Rattle.sheet.proofs.each_ok.Goals as goal

pub returns : goal.returns
returns c = all_moves (move_ok c.args.rules.now.lots c.args.rules.now.domain.now) _ _ _ _ _ c.iter.ensures.rest (λ x b q k. search (rules, tests)) c.all.ensures.ran
