-- `tables::lot_ties_ok` meets its contract: every pair is right.
use mathlib.Core.Path.{refl}
use Rattle.std.proofs.Common.{rules, tests}
use Rattle.lex.proofs.Ranges.{all_range}
use Rattle.week.specs.Rules.{rules_of}
use Rattle.week.specs.Tables.{pair_ok, lot_ties_half}
use Rattle.tables.proofs.lot_ties_ok.Goals as goal

pub returns : goal.returns
unfolding lot_ties_half
returns c = all_range _ _ _ _ (pair_ok (rules_of c.args.rules.now) c.args.p.0) _ refl (λ x b q k. search (rules, tests)) c.all.ensures.ran
