-- `sheet::all_fresh` meets its contract.
use borrow.Author.Rules.{rules}
use borrow.Author.Tests.{tests}
use Rattle.week.specs.Rules.{rules_of}
use Rattle.sheet.specs.Moves.{fresh_move, fresh}
use Rattle.sheet.proofs.Pairs.{all_moves}
use Rattle.sheet.proofs.all_fresh.Goals as goal

pub returns : goal.returns
unfolding fresh fresh_move
returns c = all_moves (fresh_move (rules_of c.args.rules.now) c.args.marks.now c.args.copy) _ _ _ _ _ c.iter.ensures.rest (λ x b q k. search (rules, tests)) c.all.ensures.ran
