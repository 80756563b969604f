-- `mend::mends` meets its contract: the slots of the lot that is next are tried one after the other; fewer lots are left to decide at each call.
use mathlib.Core.Path.{◌≡◌, sym, ◌∙◌, ap}
use mathlib.Core.Bool.{false}
use Prim.Native.Nat.{ℕ, ◌<◌}
use native.Mathlib.Omega.{arith}
use lib.Bits.{bit_or}
use lib.ListN.{set}
use Rattle.std.proofs.Common.{rules}
use Rattle.lex.specs.Every.{count}
use Rattle.week.specs.Tables.{lent}
use Rattle.repair.specs.Found.{lots_of}
use Rattle.parts.specs.Part.{unplaced}
use Rattle.mend.specs.Sets.{minus}
use Rattle.mend.specs.Mend.{Tells}
use Rattle.mend.proofs.Moving.{moving_few, tells_held, tells_many, tells_done, next_lot, next_spare, passed_clash, passed_held, passed_no, passed_all, moving_next, moving_less, asked_few, no_room}
use Rattle.mend.proofs.+mends.Goals as goal
use Rattle.mend.proofs.+mends.Goals.{then-not-bit-via-then-not-bit, then-not-bit-via-else-not-bit+then-not-may_go}

pub returns-then-not-is_empty : goal.returns-then-not-is_empty
returns-then-not-is_empty t c =
    let h : 0 < c.bitand-stopped.result.0 = search rules in
    tells_held c.requires.moving (rw (c.bitand-stopped.ensures, c.without-others.ensures) at h)

pub returns-then-moves-len : goal.returns-then-moves-len
returns-then-moves-len t c = tells_many c.requires.moving (rw (c.len.ensures, c.without-others.ensures) at c.if-moves-len.true)

pub has_room-requires : goal.has_room-requires
has_room-requires t c = asked_few c.args.case.now c.in-Some.at.now (rw c.in-Some.is at c.requires.room) (moving_few c.requires.moving)

pub returns-in-Some : goal.returns-in-Some
returns-in-Some t c =
    no_room c.args.case.now c.in-Some.at.now (rw c.in-Some.is at c.requires.room) c.args.moves.now c.requires.moving (sym c.has_room.ensures ∙ c.if-not-has_room.true)

pub returns-in_default : goal.returns-in_default
returns-in_default t c = let h : c.args.moves.now.forced.0 ≡ 0 = search rules in tells_done c.requires.moving h

pub returns-in_default-2 : goal.returns-in_default-2
returns-in_default-2 t c = let h : c.args.moves.now.forced.0 ≡ 0 = search rules in tells_done c.requires.moving h

pub open_word-own-requires : goal.open_word-own-requires
open_word-own-requires t c = moving_few c.requires.moving

pub left_after-left-requires : goal.left_after-left-requires
left_after-left-requires t c =
    next_spare c.requires.moving c.next_lot-x.result.0 c.next_lot-x.ensures (rw (c.len.ensures, c.without-others.ensures) at c.if-moves-len.false)

pub only-here-requires : goal.only-here-requires
only-here-requires t c =
    let a = next_lot c.requires.moving c.next_lot-x.result.0 c.next_lot-x.ensures in
    let b = moving_few c.requires.moving in
    omega arith

pub loop-v-preserved-then-not-bit : goal.loop-v-preserved-then-not-bit
loop-v-preserved-then-not-bit t c =
    let x = c.next_lot-x.result.0 in
    let v = c.loop-v.v in
    let own = c.open_word-own.result in
    let word = c.open_word-own.ensures in
    let low = c.loop-v-test.true in
    let passed = c.loop-v.invariant in
    elim c.then-not-bit.branch [
      | then-not-bit-via-then-not-bit w ↦
          passed_clash c.requires.moving x c.next_lot-x.ensures own word v low (sym c.bit.ensures ∙ w.if-not-bit.true) passed
      | then-not-bit-via-else-not-bit+then-not-may_go w ↦
          let out = sym w.may_go.ensures ∙ w.if-not-may_go.true in
          passed_held c.requires.moving x c.next_lot-x.ensures own word v low (sym c.bit.ensures ∙ w.if-not-bit.false) out passed
    ]

pub bounds-next-from : goal.bounds-next-from
bounds-next-from t c =
    let a = next_lot c.requires.moving c.next_lot-x.result.0 c.next_lot-x.ensures in
    let b = moving_few c.requires.moving in
    let e = c.from.ensures in
    omega arith

pub driven_set-driven-requires : goal.driven_set-driven-requires
driven_set-driven-requires t c = moving_few c.requires.moving

pub mends-requires : goal.mends-requires
mends-requires t c =
    let fell : count (unplaced 16 c.args.moves.now.slots) c.args.case.now.week.numbers.n ≡ t = c.decreases in
    let W = lent c.args.case.now.week in
    let x = c.next_lot-x.result.0 in
    let v = c.loop-v.v in
    let m = c.args.moves.now.slots in
    let own = c.open_word-own.result in
    let word = c.open_word-own.ensures in
    let opened = sym c.bit.ensures ∙ c.if-not-bit.false in
    let go = sym c.may_go.ensures ∙ c.if-not-may_go.false in
    let low = c.loop-v-test.true in
    let less = moving_less c.requires.moving x c.next_lot-x.ensures own word v low opened go in
    let k = c.driven_set-driven.result.0 in
    let spare = next_spare c.requires.moving x c.next_lot-x.ensures (rw (c.len.ensures, c.without-others.ensures) at c.if-moves-len.false) in
    let rest = c.bitor-next.ensures ∙ ap (λ (j : ℕ). bit_or j k) (c.without-rest.ensures ∙ ap (minus c.args.moves.now.forced.0) c.only-here.ensures) in
    let left = c.left_after-left in
    rw c.from.ensures (
      omega arith,
      (
        moving_next c.requires.moving x c.next_lot-x.ensures own word v low opened go k left.result _ (rw c.from.ensures at c.driven_set-driven.ensures) left.ensures spare rest,
        c.requires.room,
      ),
    )

pub loop-v-preserved : goal.loop-v-preserved
loop-v-preserved t c =
    let case = c.args.case.now in
    let f : Tells (lent case.week) case.order.now (lots_of case.lost) (set c.args.moves.now.slots c.from.result c.loop-v.v) false = c.in-Err.ensures in
    passed_no c.requires.moving c.next_lot-x.result.0 c.next_lot-x.ensures c.loop-v.v (rw c.from.ensures at f) c.loop-v.invariant

pub returns : goal.returns
returns t c = passed_all c.requires.moving c.next_lot-x.result.0 c.next_lot-x.ensures c.loop-v.v c.loop-v-test.false c.loop-v.invariant
