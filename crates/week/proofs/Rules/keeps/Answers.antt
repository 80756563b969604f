-- `week::Rules::keeps` meets its contract: every lot stands well.
use mathlib.Core.Path.{refl}
use Rattle.std.proofs.Common.{rules, tests}
use Rattle.lex.proofs.Ranges.{all_range}
use Rattle.week.specs.Rules.{rules_of, lot_fits, keeps_half}
use Rattle.week.proofs.Rules.keeps.Goals as goal

pub returns : goal.returns
unfolding keeps_half
returns c = all_range _ _ _ _ (lot_fits (rules_of c.args.self.now) c.args.order.now) _ refl (λ x b q k. search (rules, tests)) c.all.ensures.ran
