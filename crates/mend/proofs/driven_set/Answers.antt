-- `mend::driven_set` meets its contract: each lot is asked by the rules of the week.
use Rattle.std.proofs.Common.{rules, tests}
use Rattle.week.specs.Rules.{rules_of}
use Rattle.week.specs.Tables.{lent}
use Rattle.mend.specs.Sets.{SetOf}
use Rattle.mend.specs.Mend.{driven}
use Rattle.mend.proofs.Moving.{driven_week}
use Rattle.mend.proofs.driven_set.Goals as goal

pub returns : goal.returns
returns c =
    let R = rules_of c.rules-rules.result in
    let a = c.args in
    let k = c.set_of.result.0 in
    let set : SetOf R.lots (driven R.lots R.ties a.case.now.order.now a.slots.now a.x.0 a.v.0) k
    = record { low = c.set_of.ensures.low; each = λ p l. let h = c.set_of.ensures.each (record { 0 = p }) l in search (rules, tests) } in
    driven_week R (lent a.case.now.week) c.rules-rules.ensures.same a.case.now.order.now a.slots.now a.x.0 a.v.0 k set
