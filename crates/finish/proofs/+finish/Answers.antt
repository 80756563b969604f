-- `finish::finish` meets its contract: the slots of the lot that is next are tried one after the other, each failure with its reason; fewer lots are left to
-- place at each call. Assumes nothing.
use mathlib.Core.Path.{◌≡◌, sym, ◌∙◌, ap}
use Prim.Native.Nat.{ℕ}
use native.Mathlib.Omega.{arith}
use lib.ListN.{get_or}
use borrow.Author.Tests.{ltb-false}
use Rattle.lex.specs.Every.{count}
use Rattle.parts.specs.Part.{unplaced}
use Rattle.week.specs.Rules.{bit_of}
use Rattle.finish.proofs.Search.{week_few, low_slot, bound_own, held_out, starved_bound, starved_held, fed_going, answer_full, next_less, answer_next, answer_jump, held_next, next_of}
use Rattle.finish.proofs.+finish.Goals as goal

pub returns-in_default : goal.returns-in_default
returns-in_default t c =
    let b = rw c.in_default.is at c.requires.1.1.0 in
    rw (c.as_order.ensures, c.in_default.is) (c.requires.1.0.size, answer_full c.requires.1.0 b c.args.most c.in_ok-judge.ensures (omega arith))

pub blamed-why-requires : goal.blamed-why-requires
blamed-why-requires t c = rw c.rules-rules.ensures.same (bound_own (next_of _ _ c.in-Some.is c.requires.1.0 c.requires.1.1.0) _ c.word_of-own.ensures)

pub slots-preserved-then-not-bit : goal.slots-preserved-then-not-bit
slots-preserved-then-not-bit t c =
    held_out (next_of _ _ c.in-Some.is c.requires.1.0 c.requires.1.1.0) c.slots.invariant
    (sym (c.bit.ensures ∙ ap (λ (z : ℕ). bit_of z c.slots.v) c.word_of-own.ensures) ∙ c.if-not-bit.true)

pub first_starved-requires : goal.first_starved-requires
first_starved-requires t c = week_few (next_of _ _ c.in-Some.is c.requires.1.0 c.requires.1.1.0)

pub blamed-part-requires : goal.blamed-part-requires
blamed-part-requires t c =
    rw (c.rules-rules.ensures.same, c.place-with.ensures)
    (starved_bound (next_of _ _ c.in-Some.is c.requires.1.0 c.requires.1.1.0) (low_slot c.slots-test.true c.requires.1.1.1) _ c.in-Some-first_starved.ensures)

pub slots-preserved-in-Some-first_starved : goal.slots-preserved-in-Some-first_starved
slots-preserved-in-Some-first_starved t c =
    starved_held (next_of _ _ c.in-Some.is c.requires.1.0 c.requires.1.1.0) (low_slot c.slots-test.true c.requires.1.1.1) c.slots.invariant _
    c.in-Some-first_starved.ensures _ _ (rw (c.rules-rules.ensures.same, c.place-with.ensures) at c.blamed-part.ensures) c.merge.ensures

pub choose-y-requires : goal.choose-y-requires
choose-y-requires t c = week_few (next_of _ _ c.in-Some.is c.requires.1.0 c.requires.1.1.0)

pub finish-requires : goal.finish-requires
finish-requires t c =
    let next = next_of _ _ c.in-Some.is c.requires.1.0 c.requires.1.1.0 in
    let low = low_slot c.slots-test.true c.requires.1.1.1 in
    let fell : count (unplaced 16 c.args.at.now.order.now) c.args.at.now.week.numbers.n ≡ t = c.decreases in
    let less = next_less next _ low _ c.place-with.ensures in
    let own = sym (c.bit.ensures ∙ ap (λ (z : ℕ). bit_of z c.slots.v) c.word_of-own.ensures) ∙ c.if-not-bit.false in
    (omega arith, (c.requires.0, (rw c.place-with.ensures (fed_going next low own c.in_default-first_starved.ensures), (c.choose-y.ensures, omega arith))))

pub returns-in-Ok : goal.returns-in-Ok
returns-in-Ok t c =
    let next = next_of _ _ c.in-Some.is c.requires.1.0 c.requires.1.1.0 in
    let e = rw c.place-with.ensures at c.in-Ok.ensures in
    rw c.in-Some.is (e.0, answer_next next c.slots.invariant (low_slot c.slots-test.true c.requires.1.1.1) _ _ c.args.most e.1)

pub returns-then-not-is_placed : goal.returns-then-not-is_placed
returns-then-not-is_placed t c =
    let next = next_of _ _ c.in-Some.is c.requires.1.0 c.requires.1.1.0 in
    let e = rw c.place-with.ensures at c.in-Err.ensures in
    let apart = ltb-false (get_or c.in-Err.part.0 c.in-Some.x.0 0) 16 (sym c.if-not-is_placed.ensures) in
    rw c.in-Some.is (e.0, answer_jump next c.slots.invariant (low_slot c.slots-test.true c.requires.1.1.1) _ _ e.1 c.args.most apart)

pub slots-preserved : goal.slots-preserved
slots-preserved t c =
    let next = next_of _ _ c.in-Some.is c.requires.1.0 c.requires.1.1.0 in
    let e = rw c.place-with.ensures at c.in-Err.ensures in
    held_next next c.slots.invariant (low_slot c.slots-test.true c.requires.1.1.1) _ _ e.1 _ c.merge-in-Err.ensures
