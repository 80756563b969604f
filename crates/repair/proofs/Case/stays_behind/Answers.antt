-- `repair::Case::stays_behind` meets its contract: `all` asks each lot before.
use mathlib.Core.Path.{refl}
use Rattle.std.proofs.Common.{rules, tests}
use Rattle.lex.proofs.Ranges.{all_range}
use Rattle.repair.specs.Repair.{stays_at}
use Rattle.repair.specs.Found.{case_of, rules_in}
use Rattle.repair.proofs.Ahead.{stays_here}
use Rattle.repair.proofs.Case.stays_behind.Goals as goal

pub returns : goal.returns
returns c =
    all_range _ _ _ _ (stays_at (rules_in c.args.self.now) (case_of c.args.self.now) c.args.begun.now.to.now c.args.q.0) c.args.begun.now.p.0 refl
    (λ x b q k. search (rules, tests, stays_here)) c.all.ensures.ran
