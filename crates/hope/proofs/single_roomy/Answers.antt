-- `hope::single_roomy` meets its contract: only a loss that the search for a repair with room refuses is named.
use mathlib.Core.Path.{refl}
use Rattle.std.proofs.Common.{rules}
use Rattle.week.specs.Tables.{lent}
use Rattle.repair.specs.Found.{lots_of}
use Rattle.cuts.specs.Reasons.{Struck}
use Rattle.hope.proofs.Safe.{one_struck}
use Rattle.hope.proofs.single_roomy.Goals as goal

pub has_roomy_repair-requires : goal.has_roomy_repair-requires
has_roomy_repair-requires c = (
  one_struck c.requires.0 _ c.requires.3.0 _ (refl, refl) c.requires.2 c.requires.3.1,
  record { forward = c.requires.0.forward; exclusive = c.requires.1 },
)

pub returns : goal.returns
returns c =
    let struck : Struck (lent c.args.at.now.week) c.args.at.now.order.now (lots_of (record { 0 = c.args.x; 1 = c.args.x })) =
    one_struck c.requires.0 _ c.requires.3.0 _ (refl, refl) c.requires.2 c.requires.3.1 in
    search rules
