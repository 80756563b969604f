-- Too little room: no super solution extends the partial order, or no repair of one makes the moves that are decided. Assumes nothing.
use mathlib.Core.Path.{◌≡◌, refl, sym, ◌∙◌, ap}
use mathlib.Core.Bool.{Bool, true, false, ◌&&◌, ◌||◌, not}
use mathlib.Core.List.{List, [], ◌∷◌}
use Prim.Native.Nat.{ℕ, ◌+◌, ◌≤◌, ◌<◌}
use native.Mathlib.Omega.{arith}
use lib.Count.{ones}
use lib.Dec.{eqb}
use lib.ListN.{get_or}
use borrow.Author.Tests.{lt-ltb, ltb-true, leb-false, eqb-true, not-true}
use Rattle.lex.specs.Every.{count, every_of, some_of}
use Rattle.lex.proofs.Every.{both, and_left, and_right, false_of, not_both, every_miss}
use Rattle.week.specs.Rules.{bit_of, together}
use Rattle.week.specs.Tables.{Week, lots, pair_rules}
use Rattle.week.proofs.Tables.{accepted}
use Rattle.week.proofs.Words.{bit_below}
use Rattle.repair.specs.Break.{breaks}
use Rattle.repair.specs.Repair.{is_lost, moves}
use Rattle.parts.specs.Part.{placed, unplaced, Extends}
use Rattle.cuts.specs.Cut.{whole}
use Rattle.cuts.specs.Hopes.{Forward}
use Rattle.cuts.specs.Reasons.{None, asked, Struck, Later, Exclusive, Spent}
use Rattle.cuts.proofs.Cut.{KeepsOn, keeps_on_read, keeps_whole, MendsOn, mends_on_read, mends_whole}
use Rattle.cuts.proofs.Hopes.{suits_order, left_order}
use Rattle.room.specs.Words.{met_by}
use Rattle.room.specs.Room.{waits, waiting, room_for, lacks, room_at, room_by, slack_at, slack_by}
use Rattle.room.proofs.Pigeon.{pigeon, count_apart, count_either, ones_slots}
use Rattle.room.proofs.Words.{met_bits}
use Rattle.room.proofs.Rooms.{union_bit, waits_group, waits_unplaced, slack_over, least_zero}

-- Waiting lots of group g that stand, in an order t that keeps the rules, in slots of their words are at most as many as the slots

module _ (W : Week) (s groups : List ℕ) (exclusive : Exclusive W groups) (g : ℕ) (word : ℕ → ℕ) (t : List ℕ) (k : KeepsOn (pair_rules W) whole (lots W) t) where
  crowd : (f : ℕ → Bool) → ((q : ℕ) → q < lots W → f q ≡ true → waits s groups g q ≡ true) → ((q : ℕ) → q < lots W → f q ≡ true → bit_of (word q) (get_or t q 0) ≡ true) → count f (lots W) ≤ ones (room_for s groups word (lots W) g)
  unfolding room_for
  crowd f wait stand =
      let a = pigeon f (bit_of (room_for s groups word (lots W) g)) (λ q. get_or t q 0) (lots W) 16 (record {
        below = λ q l e. bit_below (word q) (get_or t q 0) (stand q l e);
        passes = λ q l e. union_bit (waits s groups g) word (lots W) q (get_or t q 0) l (wait q l e) (stand q l e);
        differ = λ p q l m d e z. not_both (k.pairs p q (omega arith) m refl refl (λ y. omega arith)) (ap (together (pair_rules W) p (get_or t p 0) q) (sym z) ∙ exclusive p q (get_or t p 0) l m (waits_group s groups g p (wait p (omega arith) d) ∙ sym (waits_group s groups g q (wait q m e))));
      }) in
      let b = ones_slots (room_for s groups word (lots W) g) in
      omega arith

-- An order

-- a group has more waiting lots than slots
pub slack_none : (W : Week) (s words groups : List ℕ) → Forward (pair_rules W) s words → Exclusive W groups → slack_by (lots W) s words groups ≡ 0 → None W s
unfolding slack_by slack_at waiting
slack_none W s words groups forward exclusive e t q x =
    let z = least_zero (slack_at s groups (λ p. get_or words p 0) (lots W)) (lots W) e in
    let a = slack_over (waiting s groups (lots W) z.at) (room_for s groups (λ p. get_or words p 0) (lots W) z.at) z.is in
    let b = crowd W s groups exclusive z.at (λ p. get_or words p 0) t (rw q.len at (keeps_on_read (pair_rules W) whole t (keeps_whole (pair_rules W) t ∙ q.good))) (waits s groups z.at) (λ p l d. d) (λ p l d. forward p l (get_or t p 0) ∙ left_order (pair_rules W) s t q.len q.good x p l) in
    omega arith

-- A repair

-- a lost lot stands in a slot of its loss word
lost_placed : (loss s A : List ℕ) (p : ℕ) → breaks loss s A ≡ true → is_lost A p ≡ true → get_or s p 0 < 16
unfolding breaks is_lost every_of some_of
lost_placed loss s [] p b e = absurd (not_both e refl)
lost_placed loss s (q ∷ A) p b e = go (lost_placed loss s A p (and_right (bit_of (get_or loss q 0) (get_or s q 0)) (every_of (λ x. bit_of (get_or loss x 0) (get_or s x 0)) A) b)) (eqb p q) refl e
  where
    go : (some_of (eqb p) A ≡ true → get_or s p 0 < 16) → (t : Bool) → eqb p q ≡ t → (t || some_of (eqb p) A) ≡ true → get_or s p 0 < 16
    go rest true f h = rw (eqb-true p q f) (bit_below (get_or loss q 0) (get_or s q 0) (and_left (bit_of (get_or loss q 0) (get_or s q 0)) (every_of (λ x. bit_of (get_or loss x 0) (get_or s x 0)) A) b))
    go rest false f h = rest h

module _ (W : Week) (s A m words groups : List ℕ) (left : ℕ) (struck : Struck W s A) (forward : Forward (pair_rules W) s words) (exclusive : Exclusive W groups) (spent : Spent W s A m left) where
  -- u repairs an order t that extends s, with the moves that m decides
  module _ (u : List ℕ) (later : Later W s A u) (x : Extends (lots W) 16 m u) where
    abbrev t : List ℕ
    t = later.order

    mended : MendsOn (pair_rules W) (asked W t A) whole u
    mended = mends_on_read (pair_rules W) (asked W t A) whole u (mends_whole (pair_rules W) (asked W t A) u ∙ later.mended.good)

    kept : KeepsOn (pair_rules W) whole (lots W) u
    kept = rw later.mended.len at (keeps_on_read (pair_rules W) whole u mended.keep)

    -- a lot that moves
    abbrev off : ℕ → Bool
    off p = moves (asked W t A) p (get_or u p 0)

    -- a waiting one
    abbrev strays : ℕ → Bool
    strays p = unplaced 16 s p && off p

    -- one that m decides
    abbrev decided : ℕ → Bool
    decided p = placed 16 m p && moves (asked W s A) p (get_or m p 0)

    decided_off : (p : ℕ) → p < lots W → decided p ≡ true → off p ≡ true
    unfolding moves
    decided_off p l e =
        let h = ltb-true (get_or m p 0) 16 (and_left (placed 16 m p) (moves (asked W s A) p (get_or m p 0)) e) in
        rw (x p l h, later.extends p l (ltb-true (get_or s p 0) 16 (spent.among p l h))) (and_right (placed 16 m p) (moves (asked W s A) p (get_or m p 0)) e)

    -- no lot that m decides waits: so few waiting ones move
    few_stray : count strays (lots W) ≤ left
    few_stray =
        let a = count_apart decided strays off (lots W) decided_off (λ p l e. and_right (unplaced 16 s p) (off p) e) apart in
        let b : count off (lots W) ≤ W.numbers.b = rw later.mended.len at mended.few in
        omega (arith, spent.spent)
      where
        apart : (p : ℕ) → p < lots W → decided p ≡ true → strays p ≡ true → ⊥
        apart p l d e = not_both (spent.among p l (ltb-true (get_or m p 0) 16 (and_left (placed 16 m p) (moves (asked W s A) p (get_or m p 0)) d))) (not-true (placed 16 s p) (and_left (unplaced 16 s p) (off p) e))

    module _ (g : ℕ) where
      -- a waiting lot of group g that stays where t has it
      abbrev stays : ℕ → Bool
      stays q = waits s groups g q && eqb (get_or t q 0) (get_or u q 0)

      -- stands in a slot that is left to it beside the placed lots and the decided moves
      stays_left : (q : ℕ) → q < lots W → stays q ≡ true → bit_of (met_by (lots W) W.ties words m (lots W) q) (get_or u q 0) ≡ true
      stays_left q l e =
          met_bits (pair_rules W) (accepted W struck.fine).symmetric words m q l (get_or u q 0)
          ∙ both {a = bit_of (get_or words q 0) (get_or u q 0)} (rw (← eqb-true (get_or t q 0) (get_or u q 0) (and_right (waits s groups g q) (eqb (get_or t q 0) (get_or u q 0)) e)) (forward q l (get_or t q 0) ∙ left_order (pair_rules W) s t later.super.len later.super.good later.extends q l))
          (suits_order (pair_rules W) whole m u q (λ p i o d. kept.pairs q p l i refl refl d) (λ p i o h. x p i h))

      -- any other waiting one moves
      stays_or : (q : ℕ) → waits s groups g q ≡ true → (stays q || strays q) ≡ true
      unfolding moves
      stays_or q e = go (eqb (get_or t q 0) (get_or u q 0)) refl
        where
          found : is_lost A q ≡ false
          found = false_of (is_lost A q) (λ b. not_both (lt-ltb (get_or s q 0) 16 (lost_placed W.loss s A q struck.broken b)) (not-true (placed 16 s q) (waits_unplaced s groups g q e)))

          go : (b : Bool) → eqb (get_or t q 0) (get_or u q 0) ≡ b → ((waits s groups g q && b) || (unplaced 16 s q && (not (is_lost A q) && not b))) ≡ true
          go true f = rw e
          go false f = rw (e, waits_unplaced s groups g q e, found)

      -- so it has room
      enough : waiting s groups (lots W) g ≤ ones (room_for s groups (met_by (lots W) W.ties words m (lots W)) (lots W) g) + left
      unfolding waiting
      enough =
          let a = count_either stays strays (waits s groups g) (lots W) (λ q l e. stays_or q e) in
          let b = crowd W s groups exclusive g (met_by (lots W) W.ties words m (lots W)) u kept stays (λ q l e. and_left (waits s groups g q) (eqb (get_or t q 0) (get_or u q 0)) e) stays_left in
          let c = few_stray in
          omega arith

    room_for_all : room_by (lots W) W.ties s words groups m left ≡ false → ⊥
    unfolding room_by room_at lacks
    room_for_all e =
        let z = every_miss (room_at s groups (met_by (lots W) W.ties words m (lots W)) (lots W) left) (lots W) e in
        let a = leb-false (lacks (waiting s groups (lots W) z.at) (room_for s groups (met_by (lots W) W.ties words m (lots W)) (lots W) z.at)) left z.fails in
        let b = enough z.at in
        omega arith

-- after the decided moves a group has more waiting lots than slots beside them and lots that may still move
pub room_none : (W : Week) (s A m words groups : List ℕ) (left : ℕ) → Struck W s A → Forward (pair_rules W) s words → Exclusive W groups → Spent W s A m left → room_by (lots W) W.ties s words groups m left ≡ false → (u : List ℕ) → Later W s A u → Extends (lots W) 16 m u → ⊥
room_none W s A m words groups left struck forward exclusive spent e u later x = room_for_all W s A m words groups left struck forward exclusive spent u later x e
