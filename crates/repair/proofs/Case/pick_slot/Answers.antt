-- `repair::Case::pick_slot` meets its contract: `find` tells the first slot that leads on.
use mathlib.Core.Path.{◌≡◌}
use mathlib.Core.Bool.{true, false}
use Rattle.std.proofs.Common.{rules, tests}
use Rattle.std.proofs.lemmas.Iterator.{first_from_Range}
use Rattle.repair.specs.Repair.{leads_at}
use Rattle.repair.specs.Found.{case_of, rules_in}
use Rattle.repair.proofs.Walks.{picked}
use Rattle.repair.proofs.Case.pick_slot.Goals as goal

pub returns : goal.returns
returns c =
    let f = leads_at (rules_in c.args.self.now) (case_of c.args.self.now) c.args.to.now c.args.p.0 in
    picked f c.args.from.0 _ _
    (first_from_Range _ _ _ _ (λ v. f v ≡ true) (λ v. f v ≡ false) c.find.ensures.ran (λ x q k. search (rules, tests)) (λ x q k. search (rules, tests)))
    c.map.ensures.variant c.map.ensures.cases
