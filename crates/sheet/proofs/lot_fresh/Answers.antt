-- `sheet::lot_fresh` meets its contract.
use mathlib.Core.Path.{refl}
use borrow.Author.Rules.{rules}
use borrow.Author.Tests.{tests}
use Rattle.lex.proofs.Ranges.{all_range}
use Rattle.week.specs.Rules.{rules_of}
use Rattle.sheet.specs.Moves.{fresh_at, fresh_lot}
use Rattle.sheet.proofs.lot_fresh.Goals as goal

pub returns : goal.returns
unfolding fresh_lot
returns c = all_range _ _ _ _ (fresh_at (rules_of c.args.rules.now) c.args.marks.now c.args.copy c.args.p.0) c.args.rules.now.lots refl (λ x b q k. search (rules, tests)) c.all.ensures.ran
