-- `repair::Case::all_go` meets its contract: `all` asks each lot.
use mathlib.Core.Path.{refl}
use lib.ListN.{length}
use Rattle.std.proofs.Common.{rules, tests}
use Rattle.lex.proofs.Ranges.{all_range}
use Rattle.repair.specs.Repair.{goes_at}
use Rattle.repair.specs.Found.{case_of}
use Rattle.repair.proofs.Mends.{goes_here}
use Rattle.repair.proofs.Case.all_go.Goals as goal

pub returns : goal.returns
returns c =
    all_range _ _ _ _ (goes_at (case_of c.args.self.now) c.args.to.now) (length c.args.to.now) refl (λ x b q k. search (rules, tests, goes_here)) c.all.ensures.ran
