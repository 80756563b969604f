-- `tables::ties_ok` meets its contract: every lot is right beside those before it.
use mathlib.Core.Path.{refl, ◌∙◌}
use Rattle.std.proofs.Common.{rules, tests}
use Rattle.lex.proofs.Ranges.{all_range}
use Rattle.week.specs.Rules.{rules_of}
use Rattle.week.specs.Tables.{lot_ties_half}
use Rattle.week.proofs.Tables.{ties_half}
use Rattle.tables.proofs.ties_ok.Goals as goal

pub returns : goal.returns
returns c =
    all_range _ _ _ _ (lot_ties_half (rules_of c.args.rules.now)) _ refl (λ x b q k. search (rules, tests)) c.all.ensures.ran
    ∙ ties_half (rules_of c.args.rules.now)
