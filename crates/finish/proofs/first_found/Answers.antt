-- `finish::first_found` meets its contract: the lots passed have the least slots that a super solution has.
use mathlib.Core.Path.{refl}
use native.Mathlib.Omega.{arith}
use Rattle.lex.specs.Lists.{padded}
use Rattle.week.specs.Tables.{lent}
use Rattle.week.proofs.Tables.{accepted}
use Rattle.room.proofs.Grouped.{grouped_exclusive}
use Rattle.finish.proofs.First.{going_start, first_none, outer_start, outer_known, outer_next, outer_step, outer_found, outer_padded}
use Rattle.finish.proofs.first_found.Goals as goal

pub groups-groups-requires : goal.groups-groups-requires
groups-groups-requires c = rw c.rules-rules.ensures.lots (accepted (lent c.args.week.now) c.requires).limits.few

pub first_words-words-requires : goal.first_words-words-requires
first_words-words-requires c = rw c.rules-rules.ensures.lots (accepted (lent c.args.week.now) c.requires).limits.few

pub choose-x-requires : goal.choose-x-requires
choose-x-requires c = (accepted (lent c.args.week.now) c.requires).limits.few

pub finish-requires : goal.finish-requires
finish-requires c =
    let groups = rw (c.rules-rules.ensures.lots, c.rules-rules.ensures.ties) at c.groups-groups.ensures in
    let words = rw (c.rules-rules.ensures.lots, c.rules-rules.ensures.domain) at c.first_words-words.ensures in
    (grouped_exclusive (lent c.args.week.now) _ groups, (going_start (lent c.args.week.now) c.requires _ words, (c.choose-x.ensures, omega arith)))

pub returns-in_default : goal.returns-in_default
unfolding padded
returns-in_default c =
    let words = rw (c.rules-rules.ensures.lots, c.rules-rules.ensures.domain) at c.first_words-words.ensures in
    let e = first_none (lent c.args.week.now) c.requires _ words _ _ c.in_default.ensures.1 in
    rw e (record { found = refl; slots = tt })

pub loop-d-init : goal.loop-d-init
loop-d-init c =
    let words = rw (c.rules-rules.ensures.lots, c.rules-rules.ensures.domain) at c.first_words-words.ensures in
    rw c.empty-first.ensures (outer_start (lent c.args.week.now) c.requires _ words _ _ c.in-Ok.ensures.0 c.in-Ok.ensures.1)

pub least-known-requires : goal.least-known-requires
least-known-requires c =
    let groups = rw (c.rules-rules.ensures.lots, c.rules-rules.ensures.ties) at c.groups-groups.ensures in
    (grouped_exclusive (lent c.args.week.now) _ groups, (outer_next c.loop-d.invariant c.loop-d-test.true, outer_known c.loop-d.invariant))

pub loop-d-preserved : goal.loop-d-preserved
loop-d-preserved c =
    let made = rw (c.rules-rules.ensures.lots, c.rules-rules.ensures.ties) at c.met_words-words.ensures in
    rw c.from.ensures
    (outer_step c.loop-d.invariant c.loop-d-test.true _ _ c.least-known.ensures.0 c.least-known.ensures.1 _ c.slot_of-v.ensures made _ c.placed-first.ensures)

pub returns : goal.returns
returns c =
    let e = outer_found c.loop-d.invariant (let h = c.loop-d.auto.d-end in omega arith) in
    rw e (record { found = refl; slots = outer_padded c.loop-d.invariant })
