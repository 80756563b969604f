-- Decided moves, way by way through the search: what they leave open, that they fail, that they are enough, and one more decided move.
-- Assumes nothing.
use mathlib.Core.Path.{◌≡◌, refl, sym, ◌∙◌, ap, ap₂, subst}
use mathlib.Core.Bool.{Bool, true, false, ◌&&◌, ◌||◌, not, cond, and-true, and_assoc, or-true}
use mathlib.Core.Logic.{◌≢◌}
use mathlib.Core.List.{List, []}
use Prim.Native.Nat.{ℕ, zero, suc, ◌+◌, ◌-◌, ◌^◌, ◌≤◌, ◌<◌}
use native.Mathlib.Decide.{dec_lt, ℕ_discrete}
use native.Mathlib.Omega.{arith}
use lib.Bits.{bit_and, bit_or, and_le_l, or_lt}
use lib.Count.{ones}
use lib.Dec.{eqb}
use lib.Pow.{pow-lt}
use lib.ListN.{length, get_or, set, replicate, length-set, get_or-replicate}
use lib.Seq.{get_or-set_same, get_or-set_other}
use borrow.Author.Tests.{ltb-true, ltb-false, lt-ltb, le-ltb, eq-eqb, ne_eqb, not-true}
use Rattle.lex.specs.Every.{imp, every, one_if, count}
use Rattle.lex.proofs.Every.{both, and_left, and_right, false_of, not_both, same_truth, imp_in, imp_out, every_true, every_at}
use Rattle.week.specs.Rules.{Rules, bit_of, in_domain, tie_word, together}
use Rattle.week.specs.Tables.{Week, lots, lent, pair_rules}
use Rattle.week.proofs.Standing.{Symmetric}
use Rattle.week.proofs.Tables.{accepted}
use Rattle.repair.specs.declared.Case.{Case as HeldCase}
use Rattle.repair.specs.declared.Lost.{Lost}
use Rattle.repair.specs.Found.{lots_of}
use Rattle.repair.specs.Repair.{Case, is_lost, may_go, moves}
use Rattle.repair.proofs.Mends.{lost_either}
use Rattle.parts.specs.Part.{placed, unplaced, Above}
use Rattle.parts.proofs.Part.{count_one, count_place}
use Rattle.parts.proofs.Slots.{above_all, above_next, above_fails}
use Rattle.cuts.specs.Hopes.{suits, suits_on}
use Rattle.cuts.specs.Moves.{may_leave, calm, lands, sound, uses, may, has_to, Settled}
use Rattle.cuts.specs.Reasons.{asked, Struck, Judges, Later, Spent}
use Rattle.cuts.proofs.Cut.{KeepsOn, count_fewer}
use Rattle.cuts.proofs.Hopes.{suits_self, suits_free, suits_with, suits_else, suits_make, suits_at, suits_read, suits_own, alive_keeps}
use Rattle.cuts.proofs.Moves.{goes_off, sound_decided, uses_decided, sound_undecided, uses_undecided, at_rest, Lands, lands_read, lands_make, may_make, sound_at, few_uses, may_out}
use Rattle.cuts.proofs.Settled.{settled_mended}
use Rattle.room.specs.declared.Partial.{Partial}
use Rattle.room.specs.Room.{room_by}
use Rattle.room.proofs.None.{room_none}
use Rattle.mend.specs.Sets.{has, SetOf, minus}
use Rattle.mend.specs.Mend.{driven, stuck, opens, Opens, Moving, Tells, MovingBy, RoomedBy}
use Rattle.mend.specs.declared.Moves.{Moves}
use Rattle.mend.proofs.Sets.{has_and, has_or, has_minus, has_one, has_low, has_zero, minus_low, member, ones_count, ones_some}
use Rattle.mend.proofs.Later.{later_needed, lost_lot, lost_placed, struck_none}

-- Counting

-- two tests of which no number passes both, and a third that is passed by every number that passes one of them
count_apart : (f g h : ℕ → Bool) (n : ℕ) → ((p : ℕ) → p < n → f p ≡ true → h p ≡ true) → ((p : ℕ) → p < n → g p ≡ true → h p ≡ true) → ((p : ℕ) → p < n → f p ≡ true → g p ≡ false) → count f n + count g n ≤ count h n
unfolding count
count_apart f g h zero a b c = omega arith
count_apart f g h (suc n) a b c =
    let r = count_apart f g h n (λ p l. a p (omega arith)) (λ p l. b p (omega arith)) (λ p l. c p (omega arith)) in
    let e = one (f n) (g n) (h n) (a n (omega arith)) (b n (omega arith)) (c n (omega arith)) in
    omega arith
  where
    one : (x y z : Bool) → (x ≡ true → z ≡ true) → (y ≡ true → z ≡ true) → (x ≡ true → y ≡ false) → one_if x + one_if y ≤ one_if z
    one true y z i j k = rw (i refl, k refl) (omega arith)
    one false true z i j k = rw (j refl) (omega arith)
    one false false z i j k = omega arith

count_none : (f : ℕ → Bool) (n : ℕ) → ((p : ℕ) → p < n → f p ≡ false) → count f n ≡ 0
unfolding count
count_none f zero h = refl
count_none f (suc n) h = rw (count_none f n (λ p l. h p (omega arith)), h n (omega arith))

-- Truth

and_same : (a b c : Bool) → (a ≡ true → b ≡ c) → (a && b) ≡ (a && c)
and_same true b c h = h refl
and_same false b c h = refl

and_off : (a b : Bool) → (a && b) ≡ false → a ≡ true → b ≡ false
and_off true b e h = e
and_off false b e h = absurd (not_both h refl)

-- a lot that has to move since it is lost or not calm, or now for a further clash
more_moves : (o u l c t : Bool) → ((o && (u && (l || not c))) || (o && (u && not t))) ≡ (o && (u && (l || not (c && t))))
more_moves false u l c t = refl
more_moves true false l c t = refl
more_moves true true true c t = refl
more_moves true true false false t = refl
more_moves true true false true t = refl

-- One more decided lot: x, which was not, goes to slot v

suits_place : (R : Rules) (on : ℕ → Bool) (m : List ℕ) (x v : ℕ) → x < length m → x < R.lots → on x ≡ true → 16 ≤ get_or m x 0 → v < 16 → (p w : ℕ) → p ≢ x → suits_on R on (set m x v) p w ≡ (suits_on R on m p w && together R p w x v)
suits_place R on m x v i l o h g p w d =
    same_truth (suits_on R on (set m x v) p w) (suits_on R on m p w && together R p w x v)
    (λ e. both (suits_make R on m p w (λ q k u. elim (ℕ_discrete q x) [
      | yes z ↦ rw z (suits_free R m p w x h)
      | no z ↦ sym (suits_else R m x v p w q z) ∙ suits_at R on (set m x v) p w e q k u
    ])) (sym new ∙ suits_at R on (set m x v) p w e x l o))
    (λ e. suits_make R on (set m x v) p w (λ q k u. elim (ℕ_discrete q x) [
      | yes z ↦ rw z (new ∙ and_right (suits_on R on m p w) (together R p w x v) e)
      | no z ↦ suits_else R m x v p w q z ∙ suits_at R on m p w (and_left (suits_on R on m p w) (together R p w x v) e) q k u
    ]))
  where
    is : get_or (set m x v) x 0 ≡ v
    is = get_or-set_same m x v 0 i

    new : suits R (set m x v) p w x ≡ together R p w x v
    new = suits_with R (set m x v) p w x d (rw is g) ∙ ap (together R p w x) is

-- The sets

module _ (n k j : ℕ) (f g : ℕ → Bool) (a : SetOf n f k) (b : SetOf n g j) where
  minus_at : (p : ℕ) → p < n → has (minus k j) p ≡ (f p && not (g p))
  minus_at p l = has_minus k j p ∙ ap₂ (λ (x y : Bool). x && not y) (a.each p l) (b.each p l)

module _ {W : Week} {s A m : List ℕ} {gone held forced left : ℕ} (c : Moving W s A m gone held forced left) where
  abbrev R : Rules
  R = pair_rules W

  abbrev C : Case
  C = asked W s A

  abbrev on : ℕ → Bool
  on = placed 16 s

  abbrev n : ℕ
  n = lots W

  mirror : Symmetric R
  mirror = (accepted W c.struck.fine).symmetric

  pub moving_few : n ≤ 24
  moving_few = (accepted W c.struck.fine).limits.few

  kept : KeepsOn R on n s
  kept = alive_keeps R s c.struck.live

  abbrev forced_at : ℕ → Bool
  forced_at p = on p && has_to R C on m p

  -- the lots that have to move and are not lost
  abbrev others : ℕ
  others = minus forced gone

  others_low : others < 2 ^ n
  others_low = minus_low n forced gone c.moves.low

  others_at : (p : ℕ) → p < n → has others p ≡ (forced_at p && not (is_lost A p))
  others_at p l = minus_at n forced gone forced_at (is_lost A) c.moves c.lost p l

  -- a lot that has to move is placed and not decided, and is lost or clashes
  record Forced (p : ℕ) : Type 0 where
    here : on p ≡ true
    idle : 16 ≤ get_or m p 0
    why : (is_lost A p || not (calm R C on m p)) ≡ true

  forced_read : (p : ℕ) → forced_at p ≡ true → Forced p
  unfolding has_to
  forced_read p e =
      let h = and_right (on p) (has_to R C on m p) e in
      record {
        here = and_left (on p) (has_to R C on m p) e;
        idle = ltb-false (get_or m p 0) 16 (not-true (placed 16 m p) (and_left (unplaced 16 m p) (is_lost A p || not (calm R C on m p)) h));
        why = and_right (unplaced 16 m p) (is_lost A p || not (calm R C on m p)) h;
      }

  clashing : (p : ℕ) → Forced p → is_lost A p ≡ false → calm R C on m p ≡ false
  clashing p f e = not-true (calm R C on m p) (rw e at f.why)

  -- What is decided fails

  fails : may R C on m ≡ false → Tells W s A m false
  fails e u q x = not_both ((later_needed W s A).needed m u q x) e

  -- a lot that has to move may not leave
  pub tells_held : 0 < bit_and others held → Tells W s A m false
  unfolding stuck may_leave
  tells_held h = fails (false_of (may R C on m) (λ e. not_both (sound_at R C on m e p l f.here) unsound))
    where
      found : (p : ℕ) × ((p < n) × (has (bit_and others held) p ≡ true))
      found = member n (bit_and others held) (let a = and_le_l others held in let b = others_low in omega arith) h

      p : ℕ
      p = found.0

      l : p < n
      l = found.1.0

      both_have : (has others p && has held p) ≡ true
      both_have = sym (has_and others held p) ∙ found.1.1

      other : (forced_at p && not (is_lost A p)) ≡ true
      other = sym (others_at p l) ∙ and_left (has others p) (has held p) both_have

      f : Forced p
      f = forced_read p (and_left (forced_at p) (not (is_lost A p)) other)

      kind : is_lost A p ≡ false
      kind = not-true (is_lost A p) (and_right (forced_at p) (not (is_lost A p)) other)

      shut : bit_of (get_or W.give p 0) (get_or s p 0) ≡ false
      shut = not-true (bit_of (get_or W.give p 0) (get_or s p 0)) (and_right (on p) (not (bit_of (get_or W.give p 0) (get_or s p 0))) (sym (c.stays.each p l) ∙ and_right (has others p) (has held p) both_have))

      unsound : sound R C on m p ≡ false
      unsound = sound_undecided R C on m p f.idle ∙ rw (clashing p f kind, kind, shut)

  -- more lots have to move than may
  abbrev moved : ℕ → Bool
  moved p = placed 16 m p && moves C p (get_or m p 0)

  abbrev used : ℕ → Bool
  used p = on p && uses R C on m p

  pub tells_many : left < ones others → Tells W s A m false
  tells_many h = fails (false_of (may R C on m) (λ e. let a = few_uses R C on m e in let b = ones_count n others others_low in let d = count_apart moved (has others) used n moved_used others_used apart in let g = c.spent.spent in absurd (omega arith)))
    where
      decided : (p : ℕ) → moved p ≡ true → get_or m p 0 < 16
      decided p e = ltb-true (get_or m p 0) 16 (and_left (placed 16 m p) (moves C p (get_or m p 0)) e)

      moved_used : (p : ℕ) → p < n → moved p ≡ true → used p ≡ true
      moved_used p l e = both (c.spent.among p l (decided p e)) (uses_decided R C on m p (decided p e) ∙ and_right (placed 16 m p) (moves C p (get_or m p 0)) e)

      others_used : (p : ℕ) → p < n → has others p ≡ true → used p ≡ true
      others_used p l e =
          let o = sym (others_at p l) ∙ e in
          let f = forced_read p (and_left (forced_at p) (not (is_lost A p)) o) in
          let k = and_right (forced_at p) (not (is_lost A p)) o in
          both f.here (uses_undecided R C on m p f.idle ∙ both k (ap not (clashing p f (not-true (is_lost A p) k))))

      apart : (p : ℕ) → p < n → moved p ≡ true → has others p ≡ false
      apart p l e = false_of (has others p) (λ t. let f = forced_read p (and_left (forced_at p) (not (is_lost A p)) (sym (others_at p l) ∙ t)) in let a = decided p e in let b = f.idle in omega arith)

  -- No lot is left that has to move

  pub tells_done : forced ≡ 0 → Tells W s A m true
  tells_done e = settled_mended R C on mirror kept m (may_make R C on m sounds few) settled
    where
      settled : Settled R C on m
      settled p l o = and_off (on p) (has_to R C on m p) (sym (c.moves.each p l) ∙ ap (λ (k : ℕ). has k p) e ∙ has_zero p) o

      rests : (p : ℕ) → p < n → on p ≡ true → 16 ≤ get_or m p 0 → calm R C on m p ≡ true
      rests p l o h = (at_rest R C on m p h (settled p l o)).1

      sounds : (p : ℕ) → p < n → on p ≡ true → sound R C on m p ≡ true
      sounds p l o = elim (dec_lt (get_or m p 0) 16) [
        | yes h ↦ sound_decided R C on m p h ∙ c.land p l h
        | no h ↦ sound_undecided R C on m p (omega arith) ∙ ap (λ (b : Bool). b || may_leave C p) (rests p l o (omega arith))
      ]

      used_moved : (p : ℕ) → p < n → used p ≡ true → moved p ≡ true
      used_moved p l t = elim (dec_lt (get_or m p 0) 16) [
        | yes h ↦ both (lt-ltb (get_or m p 0) 16 h) (sym (uses_decided R C on m p h) ∙ and_right (on p) (uses R C on m p) t)
        | no h ↦ absurd (not_both (rests p l (and_left (on p) (uses R C on m p) t) (omega arith)) (not-true (calm R C on m p) (and_right (not (is_lost A p)) (not (calm R C on m p)) (sym (uses_undecided R C on m p (omega arith)) ∙ and_right (on p) (uses R C on m p) t))))
      ]

      few : count used n ≤ W.numbers.b
      few = let a = count_fewer used moved n n (omega arith) used_moved in let b = c.spent.spent in omega arith

  -- Lot x has to move

  module _ (x : ℕ) (e : has forced x ≡ true) where
    pub next_lot : x < n
    next_lot = has_low n forced x c.moves.low e

    next : Forced x
    next = forced_read x (sym (c.moves.each x next_lot) ∙ e)

    pub next_inside : x < length m
    next_inside = let a = next_lot in omega (arith, moving_few, c.size)

    -- one that is not lost may still move
    pub next_spare : ones others ≤ left → is_lost A x ≡ false → 0 < left
    next_spare h k = let a = ones_some n others x others_low (others_at x next_lot ∙ both (sym (c.moves.each x next_lot) ∙ e) (ap not k)) in omega arith

    -- the slots of x below v lead to no repair
    abbrev pub Passed : ℕ → Type 0
    Passed v = Above (Later W s A) n 16 m x v

    pub passed_all : (v : ℕ) → 16 ≤ v → Passed v → Tells W s A m false
    passed_all v g a = above_all (Later W s A) n 16 (may R C on) (later_needed W s A) m x v [] next_lot g a

    -- no repair has x in slot v
    pub passed_no : (v : ℕ) → Tells W s A (set m x v) false → Passed v → Passed (v + 1)
    passed_no v f a = above_next (Later W s A) n 16 m x v next.idle next_inside next_lot [] a f

    -- some repair does
    pub tells_found : (v : ℕ) (r : Bool) → r ≡ true → Tells W s A (set m x v) r → Tells W s A m r
    tells_found v true g f = f
    tells_found v false g f = absurd (not_both g refl)

    -- Slot v of x, which the open word has or has not

    module _ (own : ℕ) (word : Opens n W.domain W.ties m x n own) (v : ℕ) (low : v < 16) where
      abbrev beside : ℕ → Bool
      beside q = imp (placed 16 m q) (bit_of (tie_word n W.ties q (get_or m q 0) x) v)

      opens_suits : opens n W.domain W.ties m x n v ≡ (in_domain R x v && suits_on R on m x v)
      unfolding opens in_domain together
      opens_suits =
          same_truth (bit_of (get_or W.domain x 0) v && every beside n) (bit_of (get_or W.domain x 0) v && suits_on R on m x v)
          (λ t. both (and_left (bit_of (get_or W.domain x 0) v) (every beside n) t) (suits_make R on m x v (λ q k o. elim (ℕ_discrete x q) [
            | yes z ↦ suits_self R m x v q z
            | no z ↦ elim (dec_lt (get_or m q 0) 16) [
              | yes h ↦ suits_with R m x v q z h ∙ mirror x v q (get_or m q 0) next_lot low k h ∙ imp_out (placed 16 m q) (bit_of (tie_word n W.ties q (get_or m q 0) x) v) (every_at beside n q (and_right (bit_of (get_or W.domain x 0) v) (every beside n) t) k) (lt-ltb (get_or m q 0) 16 h)
              | no h ↦ suits_free R m x v q (omega arith)
            ]
          ])))
          (λ t. both (and_left (bit_of (get_or W.domain x 0) v) (suits_on R on m x v) t) (every_true beside n (λ q k. imp_in (placed 16 m q) (bit_of (tie_word n W.ties q (get_or m q 0) x) v) (λ o.
          let h = ltb-true (get_or m q 0) 16 o in
          sym (mirror x v q (get_or m q 0) next_lot low k h) ∙ suits_read R on m x v (and_right (bit_of (get_or W.domain x 0) v) (suits_on R on m x v) t) q k (c.spent.among q k h) (λ z. let a = next.idle in let b = ap (λ (y : ℕ). get_or m y 0) z in omega arith) h))))

      lands_by : (bit_of own v && may_go C x v) ≡ lands R C on m x v
      unfolding lands
      lands_by = ap (λ (b : Bool). b && may_go C x v) (word v ∙ opens_suits) ∙ and_assoc (in_domain R x v) (suits_on R on m x v) (may_go C x v)

      passed_out : (bit_of own v && may_go C x v) ≡ false → Passed v → Passed (v + 1)
      passed_out f a = above_fails (Later W s A) n 16 m x v next.idle next_inside next_lot (may R C on) (later_needed W s A) a (may_out R C on m x v next_inside next_lot next.here low (sym lands_by ∙ f))

      -- it would clash there
      pub passed_clash : bit_of own v ≡ false → Passed v → Passed (v + 1)
      passed_clash f a = passed_out (ap (λ (b : Bool). b && may_go C x v) f) a

      -- it may not go there
      pub passed_held : bit_of own v ≡ true → may_go C x v ≡ false → Passed v → Passed (v + 1)
      passed_held o f a = passed_out (ap₂ ◌&&◌ o f) a

      -- it is decided to go there
      module _ (o : bit_of own v ≡ true) (go : may_go C x v ≡ true) where
        abbrev to : List ℕ
        to = set m x v

        landed : Lands R C on m x v
        landed = lands_read R C on m x v (sym lands_by ∙ both o go)

        is : get_or to x 0 ≡ v
        is = get_or-set_same m x v 0 next_inside

        suits_to : (p w : ℕ) → p ≢ x → suits_on R on to p w ≡ (suits_on R on m p w && together R p w x v)
        suits_to p w d = suits_place R on m x v next_inside next_lot next.here next.idle low p w d

        -- the decided lots land
        land_other : (p : ℕ) → p < n → p ≢ x → get_or m p 0 < 16 → lands R C on to p (get_or m p 0) ≡ true
        land_other p l d h =
            let a = lands_read R C on m p (get_or m p 0) (c.land p l h) in
            lands_make R C on to p (get_or m p 0) (record {
              domain = a.domain;
              suits = suits_to p (get_or m p 0) d ∙ both a.suits (mirror p (get_or m p 0) x v l h next_lot low ∙ suits_read R on m x v landed.suits p l (c.spent.among p l h) (λ z. d (sym z)) h);
              go = a.go;
            })

        land_next : (p : ℕ) → p < n → get_or to p 0 < 16 → lands R C on to p (get_or to p 0) ≡ true
        land_next p l h = elim (ℕ_discrete p x) [
          | yes z ↦ rw (z, is) (lands_make R C on to x v (record { domain = landed.domain; suits = suits_own R on m x v v ∙ landed.suits; go = landed.go }))
          | no z ↦ let y = get_or-set_other m x p v 0 z in rw y (land_other p l z (rw y at h))
        ]

        -- the lots that may still move
        abbrev moved' : ℕ → Bool
        moved' p = placed 16 to p && moves C p (get_or to p 0)

        counted : (b : Bool) → moves C x v ≡ b → count moved' n ≡ count moved n + one_if b
        counted b f =
            let a = count_one moved' moved x n next_lot (λ q d. rw (get_or-set_other m x q v 0 d)) in
            let z : count moved' n + 0 ≡ count moved n + one_if b = rw (is, lt-ltb v 16 low, f, le-ltb (get_or m x 0) 16 next.idle) at a in
            omega arith

        stays_lost : is_lost A x ≡ true → moves C x v ≡ false
        unfolding moves
        stays_lost f = rw f

        goes : is_lost A x ≡ false → moves C x v ≡ true
        unfolding calm
        goes f = goes_off C x v f (ne_eqb (get_or s x 0) v (λ z. not_both landed.suits (ap (suits_on R on m x) (sym z) ∙ clashing x next f)))

        spent_next : (after : ℕ) → after ≡ cond (is_lost A x) left (left - 1) → (is_lost A x ≡ false → 0 < left) → Spent W s A to after
        spent_next after f h = record {
          among = λ q k u. elim (ℕ_discrete q x) [ yes z ↦ rw z next.here | no z ↦ c.spent.among q k (rw (get_or-set_other m x q v 0 z) at u) ];
          spent = sum (is_lost A x) refl f;
        }
          where
            sum : (b : Bool) → is_lost A x ≡ b → after ≡ cond b left (left - 1) → after + count moved' n ≡ W.numbers.b
            sum true k g = let a = counted false (stays_lost k) in let b = c.spent.spent in omega arith
            sum false k g = let a = counted true (goes k) in let b = c.spent.spent in let d = h k in omega arith

        -- the lots that have to move
        calm_next : (p : ℕ) → p < n → on p ≡ true → p ≢ x → calm R C on to p ≡ (calm R C on m p && bit_of (tie_word n W.ties x v p) (get_or s p 0))
        unfolding calm together
        calm_next p l u d = suits_to p (get_or s p 0) d ∙ ap (λ (b : Bool). suits_on R on m p (get_or s p 0) && b) (mirror p (get_or s p 0) x v l (ltb-true (get_or s p 0) 16 u) next_lot low)

        gone_now : (a b : Bool) → ((a && false) || (b && false)) ≡ (b && false)
        gone_now true true = refl
        gone_now true false = refl
        gone_now false b = refl

        forced_at_lem : (p : ℕ) → p < n → ((forced_at p && not (eqb p x)) || driven n W.ties s to x v p) ≡ (on p && has_to R C on to p)
        unfolding driven has_to
        forced_at_lem p l = elim (ℕ_discrete p x) [
          | yes z ↦ rw (z, eq-eqb x x refl, is, lt-ltb v 16 low) (gone_now (forced_at x) (on x))
          | no z ↦
              rw (ne_eqb p x z, get_or-set_other m x p v 0 z, and-true)
              (more_moves (on p) (unplaced 16 m p) (is_lost A p) (calm R C on m p) (bit_of (tie_word n W.ties x v p) (get_or s p 0))
              ∙ and_same (on p) (unplaced 16 m p && (is_lost A p || not (calm R C on m p && bit_of (tie_word n W.ties x v p) (get_or s p 0)))) (unplaced 16 m p && (is_lost A p || not (calm R C on to p)))
              (λ u. ap (λ (b : Bool). unplaced 16 m p && (is_lost A p || not b)) (sym (calm_next p l u z))))
        ]

        forced_next : (k : ℕ) → SetOf n (driven n W.ties s to x v) k → SetOf n (λ p. on p && has_to R C on to p) (bit_or (minus forced (2 ^ x)) k)
        forced_next k d = record {
          low = or_lt n (minus forced (2 ^ x)) k (minus_low n forced (2 ^ x) c.moves.low) d.low;
          each = λ p l. has_or (minus forced (2 ^ x)) k p ∙ ap₂ ◌||◌ (has_minus forced (2 ^ x) p ∙ ap₂ (λ (a b : Bool). a && not b) (c.moves.each p l) (has_one x p)) (d.each p l) ∙ forced_at_lem p l;
        }

        pub moving_next : (k after rest : ℕ) → SetOf n (driven n W.ties s to x v) k → after ≡ cond (is_lost A x) left (left - 1) → (is_lost A x ≡ false → 0 < left) → rest ≡ bit_or (minus forced (2 ^ x)) k → Moving W s A to gone held rest after
        moving_next k after rest d f h g = record {
          struck = c.struck;
          size = rw length-set c.size;
          spent = spent_next after f h;
          land = land_next;
          lost = c.lost;
          stays = c.stays;
          moves = rw g (forced_next k d);
        }

        -- fewer lots are left to decide
        pub moving_less : count (unplaced 16 to) n < count (unplaced 16 m) n
        moving_less = let a = count_place n 16 m x v next_inside next_lot next.idle low in omega arith

-- The start: no lot is decided, and the lost ones have to move

blank : (p : ℕ) → p < 24 → 16 ≤ get_or (replicate 24 16) p 0
blank p l = rw (get_or-replicate {A = ℕ} 24 p 16 0 l) (omega arith)

module _ (W : Week) (s : List ℕ) (L : Lost) (c : Struck W s (lots_of L)) where
  pub start_few : lots W ≤ 24
  start_few = (accepted W c.fine).limits.few

  first_lost : is_lost (lots_of L) L.0.0 ≡ true
  first_lost = lost_either L L.0.0 ∙ rw (eq-eqb L.0.0 L.0.0 refl)

  last_lost : is_lost (lots_of L) L.1.0 ≡ true
  last_lost = lost_either L L.1.0 ∙ rw (eq-eqb L.1.0 L.1.0 refl, or-true)

  pub start_lots : (L.0.0 < 24) × (L.1.0 < 24)
  start_lots = let a = lost_lot W s (lots_of L) c L.0.0 first_lost in let b = lost_lot W s (lots_of L) c L.1.0 last_lost in let d = start_few in (omega arith, omega arith)

  abbrev none : List ℕ
  none = replicate 24 16

  abbrev gone_lots : ℕ
  gone_lots = bit_or (2 ^ L.0.0) (2 ^ L.1.0)

  idle : (p : ℕ) → p < lots W → 16 ≤ get_or none p 0
  idle p l = blank p (let a = start_few in omega arith)

  gone_set : SetOf (lots W) (is_lost (lots_of L)) gone_lots
  gone_set = record {
    low = or_lt (lots W) (2 ^ L.0.0) (2 ^ L.1.0) (pow-lt (lost_lot W s (lots_of L) c L.0.0 first_lost)) (pow-lt (lost_lot W s (lots_of L) c L.1.0 last_lost));
    each = λ p l. has_or (2 ^ L.0.0) (2 ^ L.1.0) p ∙ ap₂ ◌||◌ (has_one L.0.0 p) (has_one L.1.0 p) ∙ sym (lost_either L p);
  }

  calm_start : (p : ℕ) → p < lots W → calm (pair_rules W) (asked W s (lots_of L)) (placed 16 s) none p ≡ true
  unfolding calm
  calm_start p l = suits_make (pair_rules W) (placed 16 s) none p (get_or s p 0) (λ q k o. suits_free (pair_rules W) none p (get_or s p 0) q (idle q k))

  lost_forced : (p : ℕ) → p < lots W → is_lost (lots_of L) p ≡ (placed 16 s p && has_to (pair_rules W) (asked W s (lots_of L)) (placed 16 s) none p)
  unfolding has_to
  lost_forced p l = sym (rw (le-ltb (get_or none p 0) 16 (idle p l), calm_start p l) (same (is_lost (lots_of L) p) (placed 16 s p) (lost_placed W s (lots_of L) c p)))
    where
      same : (a b : Bool) → (a ≡ true → b ≡ true) → (b && (a || false)) ≡ a
      same true b h = rw (h refl)
      same false true h = refl
      same false false h = refl

  pub moving_start : (held : ℕ) → SetOf (lots W) (stuck W.give s) held → (gone : ℕ) → gone ≡ gone_lots → Moving W s (lots_of L) none gone held gone W.numbers.b
  moving_start held h gone e = rw e (record {
    struck = c;
    size = refl;
    spent = record { among = λ p l g. absurd (let a = idle p l in omega arith); spent = let a = count_none (λ p. placed 16 none p && moves (asked W s (lots_of L)) p (get_or none p 0)) (lots W) (λ p l. rw (le-ltb (get_or none p 0) 16 (idle p l))) in omega arith };
    land = λ p l g. absurd (let a = idle p l in omega arith);
    lost = gone_set;
    stays = h;
    moves = record { low = gone_set.low; each = λ p l. gone_set.each p l ∙ lost_forced p l };
  })

  -- what the search tells from there
  pub judged : (r : Bool) → Tells W s (lots_of L) none r → Judges W s (lots_of L) r
  judged true f = f
  judged false f = struck_none W s (lots_of L) c (λ u q. f u q (λ p l g. absurd (let a = idle p l in omega arith)))

-- What the lots driven by lot x in slot v are, by pair rules R that are the week's

pub driven_week : (R : Rules) (W : Week) → R ≡ pair_rules W → (s m : List ℕ) (x v k : ℕ) → SetOf R.lots (driven R.lots R.ties s m x v) k → SetOf (lots W) (driven (lots W) W.ties s m x v) k
driven_week R W e s m x v k h = subst (λ (Q : Rules). SetOf Q.lots (driven Q.lots Q.ties s m x v) k) e h

-- The test of room, where a partial order asks for it

module _ (c : HeldCase) (at : Partial) (known : RoomedBy c at) where
  pub asked_few : lots (lent c.week) ≤ 24 → at.week.numbers.n ≤ 24
  asked_few h = rw (ap (λ (W : Week). lots W) known.week) h

  pub no_room : (m : Moves) → MovingBy c m → room_by at.week.numbers.n at.week.ties.now at.order.now at.words.now at.groups.now m.slots m.left ≡ false → Tells (lent c.week) c.order.now (lots_of c.lost) m.slots false
  no_room m moving e =
      room_none (lent c.week) c.order.now (lots_of c.lost) m.slots at.words.now at.groups.now m.left moving.struck known.roomed.forward known.roomed.exclusive moving.spent
      (subst (λ (W : Week). room_by (lots W) W.ties c.order.now at.words.now at.groups.now m.slots m.left ≡ false) known.week (rw known.order at e))
