-- The waiting lots of every group and their slots, counted lot after lot; and what the code finds of a group. Assumes nothing.
use mathlib.Core.Path.{◌≡◌, refl, sym, ◌∙◌, ap, ap₂}
use mathlib.Core.Bool.{Bool, true, false, ◌||◌, cond}
use mathlib.Core.List.{List, [], ◌∷◌, ◌++◌}
use Prim.Native.Nat.{ℕ, zero, suc, ◌+◌, ◌-◌, ◌≤◌, ◌<◌, min}
use native.Mathlib.Decide.{dec_lt, ℕ_discrete}
use native.Mathlib.Numerals.{add-one}
use native.Mathlib.Omega.{arith}
use lib.Bits.{bit_or}
use lib.Count.{ones}
use lib.Dec.{eqb, ltb, leb}
use lib.ListN.{take, length, get_or, set, replicate, length-set, get_or-replicate}
use lib.Seq.{get_or-set_same, get_or-set_other}
use borrow.Author.Tests.{lt-ltb, le-ltb, eqb-true, eq-eqb, ne_eqb}
use Rattle.std.proofs.lemmas.List.{length_push, get_or_push, get_or_append_left, length-take-le, get_or-take}
use Rattle.lex.specs.Every.{count}
use Rattle.lex.proofs.Every.{and_left, and_right, count_le, count_step}
use Rattle.week.specs.Rules.{bit_of}
use Rattle.week.proofs.Words.{bit_or_lem}
use Rattle.parts.specs.Part.{placed, unplaced}
use Rattle.room.specs.Words.{Made}
use Rattle.room.specs.declared.Room.{Room}
use Rattle.room.specs.Room.{union, waits, waiting, room_for, no_room, Counted, lacks, room_at, slack_of, slack_at, lesser, least_of}

-- Unions

module _ (f : ℕ → Bool) where
  union_step : (word : ℕ → ℕ) (k : ℕ) → union f word (k + 1) ≡ cond (f k) (bit_or (union f word k) (word k)) (union f word k)
  unfolding union
  union_step word k = rw add-one

  union_cong : (a b : ℕ → ℕ) (k : ℕ) → ((q : ℕ) → q < k → a q ≡ b q) → union f a k ≡ union f b k
  unfolding union
  union_cong a b zero h = refl
  union_cong a b (suc k) h = rw (union_cong a b k (λ q l. h q (omega arith)), h k (omega arith))

  -- it has the slots of each word
  pub union_bit : (word : ℕ → ℕ) (k q v : ℕ) → q < k → f q ≡ true → bit_of (word q) v ≡ true → bit_of (union f word k) v ≡ true
  unfolding union
  union_bit word zero q v l e b = absurd (omega arith)
  union_bit word (suc k) q v l e b = elim (ℕ_discrete q k) [
    | yes z ↦ rw (← z, e, bit_or_lem (union f word q) (word q) v, b) (or_true (bit_of (union f word q) v))
    | no z ↦ more (f k) (union_bit word k q v (omega arith) e b)
  ]
    where
      or_true : (a : Bool) → (a || true) ≡ true
      or_true true = refl
      or_true false = refl

      more : (t : Bool) → bit_of (union f word k) v ≡ true → bit_of (cond t (bit_or (union f word k) (word k)) (union f word k)) v ≡ true
      more true h = rw (bit_or_lem (union f word k) (word k) v, h)
      more false h = h

-- Lots that wait

module _ (s groups : List ℕ) (g q : ℕ) where
  pub waits_here : placed 16 s q ≡ false → get_or groups q 0 ≡ g → waits s groups g q ≡ true
  unfolding waits
  waits_here e f = rw (e, eq-eqb (get_or groups q 0) g f)

  pub waits_placed : placed 16 s q ≡ true → waits s groups g q ≡ false
  unfolding waits
  waits_placed e = rw e

  pub waits_other : placed 16 s q ≡ false → (get_or groups q 0 ≡ g → ⊥) → waits s groups g q ≡ false
  unfolding waits
  waits_other e h = rw (e, ne_eqb (get_or groups q 0) g h)

  module _ (e : waits s groups g q ≡ true) where
    pub waits_group : get_or groups q 0 ≡ g
    unfolding waits
    waits_group = eqb-true (get_or groups q 0) g (and_right (unplaced 16 s q) (eqb (get_or groups q 0) g) e)

    pub waits_unplaced : unplaced 16 s q ≡ true
    unfolding waits
    waits_unplaced = and_left (unplaced 16 s q) (eqb (get_or groups q 0) g) e

-- Counted lot after lot

module _ (s groups : List ℕ) (word : ℕ → ℕ) where
  -- lot k is in group g and waits; or not
  module _ (k g : ℕ) (e : waits s groups g k ≡ true) where
    crowd_more : waiting s groups (k + 1) g ≡ waiting s groups k g + 1
    unfolding waiting
    crowd_more = count_step (waits s groups g) k ∙ rw e

    room_more : room_for s groups word (k + 1) g ≡ bit_or (room_for s groups word k g) (word k)
    unfolding room_for
    room_more = union_step (waits s groups g) word k ∙ rw e

  module _ (k g : ℕ) (e : waits s groups g k ≡ false) where
    crowd_same : waiting s groups (k + 1) g ≡ waiting s groups k g
    unfolding waiting
    crowd_same = count_step (waits s groups g) k ∙ rw e (omega arith)

    room_same : room_for s groups word (k + 1) g ≡ room_for s groups word k g
    unfolding room_for
    room_same = union_step (waits s groups g) word k ∙ rw e

  pub crowd_few : (k g : ℕ) → waiting s groups k g ≤ k
  unfolding waiting
  crowd_few k g = count_le (waits s groups g) k

  pub counted_start : Counted s groups word 0 (replicate 24 no_room)
  unfolding waiting room_for count union
  counted_start = record {
    size = refl;
    crowd = λ g l. ap (λ (r : Room). r.lots) (get_or-replicate 24 g no_room no_room l);
    room = λ g l. ap (λ (r : Room). r.slots) (get_or-replicate 24 g no_room no_room l);
  }

  module _ (k : ℕ) (rooms : List Room) (c : Counted s groups word k rooms) where
    counted_none : ((g : ℕ) → g < 24 → waits s groups g k ≡ false) → Counted s groups word (k + 1) rooms
    counted_none h = record { size = c.size; crowd = λ g l. c.crowd g l ∙ sym (crowd_same k g (h g l)); room = λ g l. c.room g l ∙ sym (room_same k g (h g l)) }

    -- lot k is placed
    pub counted_placed : placed 16 s k ≡ true → Counted s groups word (k + 1) rooms
    counted_placed e = counted_none (λ g l. waits_placed s groups g k e)

    -- it is in no group that is counted
    pub counted_beyond : (x : ℕ) → placed 16 s k ≡ false → x ≡ get_or groups k 0 → 24 ≤ x → Counted s groups word (k + 1) rooms
    counted_beyond x e f h = counted_none (λ g l. waits_other s groups g k e (λ z. omega arith))

    -- it waits in group x
    pub counted_more : (x w : ℕ) → placed 16 s k ≡ false → x ≡ get_or groups k 0 → x < 24 → w ≡ word k → Counted s groups word (k + 1) (set rooms x (record { lots = (get_or rooms x no_room).lots + 1; slots = bit_or (get_or rooms x no_room).slots w }))
    counted_more x w e f h d = record {
      size = rw length-set c.size;
      crowd = λ g l. elim (ℕ_discrete g x) [
        | yes z ↦ rw z (ap (λ (r : Room). r.lots) (get_or-set_same rooms x new no_room inside) ∙ ap (λ (i : ℕ). i + 1) (c.crowd x h) ∙ sym (crowd_more k x (waits_here s groups x k e (sym f))))
        | no z ↦ ap (λ (r : Room). r.lots) (get_or-set_other rooms x g new no_room z) ∙ c.crowd g l ∙ sym (crowd_same k g (waits_other s groups g k e (λ y. z (sym y ∙ sym f))))
      ];
      room = λ g l. elim (ℕ_discrete g x) [
        | yes z ↦ rw z (ap (λ (r : Room). r.slots) (get_or-set_same rooms x new no_room inside) ∙ ap₂ bit_or (c.room x h) d ∙ sym (room_more k x (waits_here s groups x k e (sym f))))
        | no z ↦ ap (λ (r : Room). r.slots) (get_or-set_other rooms x g new no_room z) ∙ c.room g l ∙ sym (room_same k g (waits_other s groups g k e (λ y. z (sym y ∙ sym f))))
      ];
    }
      where
        new : Room
        new = record { lots = (get_or rooms x no_room).lots + 1; slots = bit_or (get_or rooms x no_room).slots w }

        inside : x < length rooms
        inside = omega (arith, c.size)

    -- a count that goes up by one is a byte
    pub crowd_small : (x : ℕ) → x < 24 → k < 24 → (get_or rooms x no_room).lots < 24
    crowd_small x h g = let a = c.crowd x h in let b = crowd_few k x in omega arith

-- the words are those of f
pub counted_words : (s groups words : List ℕ) (f : ℕ → ℕ) (n : ℕ) (rooms : List Room) → Made n f words → Counted s groups (λ q. get_or words q 0) n rooms → Counted s groups f n rooms
unfolding room_for
counted_words s groups words f n rooms m c = record {
  size = c.size;
  crowd = c.crowd;
  room = λ g l. c.room g l ∙ union_cong (waits s groups g) (λ q. get_or words q 0) f n m.each;
}

-- What the code finds of a group

-- no slack is left where the lots are more than the slots
pub slack_over : (c w : ℕ) → slack_of c w ≡ 0 → ones w < c
unfolding slack_of
slack_over c w e = go (ltb c 2) e
  where
    go : (t : Bool) → cond t 17 (ones w + 1 - c) ≡ 0 → ones w < c
    go true f = absurd (omega arith)
    go false f = omega arith

lesser_min : (a b : ℕ) → min a b ≡ lesser a b
unfolding lesser
lesser_min a b = elim (dec_lt b a) [ yes h ↦ rw (lt-ltb b a h) (omega arith) | no h ↦ rw (le-ltb b a (omega arith)) (omega arith) ]

-- The least slack of some groups

pub slack_in : List Room → ℕ → ℕ
slack_in rooms g = slack_of (get_or rooms g no_room).lots (get_or rooms g no_room).slots

least_cong : (f h : ℕ → ℕ) (k : ℕ) → ((q : ℕ) → q < k → f q ≡ h q) → least_of f k ≡ least_of h k
unfolding least_of
least_cong f h zero e = refl
least_cong f h (suc k) e = ap₂ lesser (least_cong f h k (λ q l. e q (omega arith))) (e k (omega arith))

pub least_none : 17 ≡ least_of (slack_in []) 0
unfolding least_of
least_none = refl

-- one more
pub least_more : (rooms : List Room) (more : Room) (a b : ℕ) → a ≡ least_of (slack_in rooms) (length rooms) → b ≡ min a (slack_of more.lots more.slots) → b ≡ least_of (slack_in (rooms ++ more ∷ [])) (length (rooms ++ more ∷ []))
unfolding least_of slack_in
least_more rooms more a b e h =
    h ∙ lesser_min a (slack_of more.lots more.slots)
    ∙ rw (length_push, add-one)
    (ap₂ lesser (e ∙ least_cong (slack_in rooms) (slack_in (rooms ++ more ∷ [])) (length rooms) (λ q l. ap slack (sym (get_or_append_left rooms (more ∷ []) no_room q l)))) (ap slack (sym (get_or_push rooms more no_room (length rooms) refl))))
  where
    slack : Room → ℕ
    slack r = slack_of r.lots r.slots

-- The n first rooms, as they are counted

module _ {s groups : List ℕ} {word : ℕ → ℕ} {n : ℕ} {rooms : List Room} (c : Counted s groups word n rooms) (few : n ≤ 24) where
  pub first_long : length (take n rooms) ≡ n
  first_long = length-take-le n rooms (omega (arith, c.size))

  -- group g lacks r slots
  pub room_at_lem : (g : ℕ) → g < n → (left r : ℕ) → r ≡ lacks (get_or rooms g no_room).lots (get_or rooms g no_room).slots → room_at s groups word n left g ≡ leb r left
  unfolding room_at
  room_at_lem g l left r e = ap (λ (i : ℕ). leb i left) (ap₂ lacks (sym (c.crowd g (omega arith))) (sym (c.room g (omega arith))) ∙ sym e)

  pub first_enough : (left g : ℕ) → g < n → leb (lacks (get_or (take n rooms) g no_room).lots (get_or (take n rooms) g no_room).slots) left ≡ room_at s groups word n left g
  first_enough left g l = rw (get_or-take n rooms g no_room l) (sym (room_at_lem g l left (lacks (get_or rooms g no_room).lots (get_or rooms g no_room).slots) refl))

  pub first_least : (r : ℕ) → r ≡ least_of (slack_in (take n rooms)) (length (take n rooms)) → r ≡ least_of (slack_at s groups word n) n
  unfolding slack_in slack_at
  first_least r e =
      e ∙ rw first_long
      (least_cong (slack_in (take n rooms)) (slack_at s groups word n) n
      (λ q m. rw (get_or-take n rooms q no_room m) (ap₂ slack_of (c.crowd q (omega arith)) (c.room q (omega arith)))))

-- a number whose f is 0
pub record Zero (f : ℕ → ℕ) (k : ℕ) : Type 0 where
  pub at : ℕ
  pub below : at < k
  pub is : f at ≡ 0

pub least_zero : (f : ℕ → ℕ) (k : ℕ) → least_of f k ≡ 0 → Zero f k
unfolding least_of lesser
least_zero f zero e = absurd (omega arith)
least_zero f (suc k) e = go (least_zero f k) (ltb (f k) (least_of f k)) e
  where
    go : (least_of f k ≡ 0 → Zero f k) → (t : Bool) → cond t (f k) (least_of f k) ≡ 0 → Zero f (suc k)
    go lower true h = record { at = k; below = omega arith; is = h }
    go lower false h = let m = lower h in record { at = m.at; below = let l = m.below in omega arith; is = m.is }
