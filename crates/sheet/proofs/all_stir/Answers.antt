-- `sheet::all_stir` meets its contract.
use borrow.Author.Rules.{rules}
use borrow.Author.Tests.{tests}
use Rattle.sheet.specs.Moves.{stirs}
use Rattle.sheet.proofs.Pairs.{all_moves}
use Rattle.sheet.proofs.all_stir.Goals as goal

pub returns : goal.returns
returns c = all_moves (stirs c.args.order.now) _ _ _ _ _ c.iter.ensures.rest (λ x b q k. search (rules, tests)) c.all.ensures.ran
