-- `sheet::names_lot` meets its contract.
use borrow.Author.Rules.{rules}
use borrow.Author.Tests.{tests}
use Rattle.sheet.specs.Moves.{is_of, names}
use Rattle.sheet.proofs.Pairs.{any_moves}
use Rattle.sheet.proofs.names_lot.Goals as goal

pub returns : goal.returns
unfolding names is_of
returns c = any_moves (is_of c.args.lot.0) _ _ _ _ _ c.iter.ensures.rest (λ x b q k. search (rules, tests)) c.any.ensures.ran
