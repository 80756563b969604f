-- `tables::pair_ok` meets its contract: every word is right.
use mathlib.Core.Path.{refl}
use Rattle.std.proofs.Common.{rules, tests}
use Rattle.lex.proofs.Ranges.{all_range}
use Rattle.week.specs.Rules.{rules_of}
use Rattle.week.specs.Tables.{word_ok, pair_ok}
use Rattle.tables.proofs.pair_ok.Goals as goal

pub returns : goal.returns
unfolding pair_ok
returns c = all_range _ _ _ _ (word_ok (rules_of c.args.rules.now) c.args.p.0 c.args.q.0) _ refl (λ x b q k. search (rules, tests)) c.all.ensures.ran
