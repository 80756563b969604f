-- `mend::repair_by` meets its contract.
use mathlib.Core.Path.{ap₂, ◌∙◌}
use lib.Bits.{bit_or}
use Rattle.std.proofs.Common.{rules, tests}
use Rattle.week.specs.Tables.{lent}
use Rattle.mend.specs.Sets.{SetOf}
use Rattle.mend.specs.Mend.{stuck}
use Rattle.mend.proofs.Moving.{start_few, start_lots, moving_start, judged}
use Rattle.mend.proofs.repair_by.Goals as goal

pub only-requires : goal.only-requires
only-requires c = (start_lots (lent c.args.case.now.week) c.args.case.now.order.now c.args.case.now.lost c.requires.struck).0

pub only-requires-2 : goal.only-requires-2
only-requires-2 c = (start_lots (lent c.args.case.now.week) c.args.case.now.order.now c.args.case.now.lost c.requires.struck).1

pub set_of-requires-clause-few : goal.set_of-requires-clause-few
set_of-requires-clause-few c = start_few (lent c.args.case.now.week) c.args.case.now.order.now c.args.case.now.lost c.requires.struck

pub mends-requires-clause-moving : goal.mends-requires-clause-moving
mends-requires-clause-moving c =
    let case = c.args.case.now in
    let held : SetOf case.week.numbers.n (stuck case.week.give.now case.order.now) c.set_of.result.0
    = record { low = c.set_of.ensures.low; each = λ p l. let h = c.set_of.ensures.each (record { 0 = p }) l in search (rules, tests) } in
    let gone = c.bitor-gone.ensures ∙ ap₂ bit_or c.only.ensures c.only-2.ensures in
    moving_start (lent case.week) case.order.now case.lost c.requires.struck c.set_of.result.0 held c.bitor-gone.result.0 gone

pub returns : goal.returns
returns c = judged (lent c.args.case.now.week) c.args.case.now.order.now c.args.case.now.lost c.requires.struck _ c.mends.ensures
