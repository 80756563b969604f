-- Partial repairs by forced moves: the parts of the test `may` of what is decided, that it is needed, and that fewer lots that are on pass it more easily.
-- Assumes nothing.
use mathlib.Core.Path.{◌≡◌, refl, sym, ◌∙◌, ap}
use mathlib.Core.Bool.{Bool, true, false, ◌&&◌, ◌||◌, not, cond, and-false, or-true}
use mathlib.Core.List.{List, [], ◌∷◌}
use Prim.Native.Nat.{ℕ, zero, suc, ◌≤◌, ◌<◌}
use native.Mathlib.Decide.{dec_lt}
use native.Mathlib.Omega.{arith}
use lib.Dec.{eqb, leb}
use lib.ListN.{length, get_or, set}
use lib.Seq.{get_or-set_same}
use borrow.Author.Tests.{lt-ltb, le-ltb, leb-true, le-leb, eq-eqb, ne_eqb, not-true, not-false}
use Rattle.lex.specs.Every.{imp, every, count}
use Rattle.lex.specs.Dictionary.{Under}
use Rattle.lex.proofs.Every.{both, and_left, and_right, false_of, not_both, or_neither, imp_in, imp_out, every_true, every_at}
use Rattle.week.specs.Rules.{Rules, bit_of, in_domain}
use Rattle.repair.specs.Repair.{Case, is_lost, replaces, yields, helps, may_go, moves}
use Rattle.parts.specs.Part.{Extends, Needed}
use Rattle.cuts.specs.Cut.{RepairsOn}
use Rattle.cuts.specs.Hopes.{suits_on}
use Rattle.cuts.specs.Moves.{may_leave, calm, lands, sound, uses, may, has_to}
use Rattle.cuts.proofs.Cut.{KeepsOn, keeps_on_read, count_fewer, MendsOn, mends_on_read}
use Rattle.cuts.proofs.Hopes.{suits_make, suits_at, suits_own, suits_order}

-- One lot

module _ (C : Case) (p : ℕ) where
  abbrev stood : ℕ
  stood = get_or C.stands p 0

  -- a lot that goes elsewhere may move at all
  leaves : (v : ℕ) → may_go C p v ≡ true → eqb stood v ≡ false → may_leave C p ≡ true
  unfolding may_leave may_go yields
  leaves v e f = go (is_lost C.lost p) (and_right (helps C.numbers stood v) (cond (is_lost C.lost p) (replaces C.numbers stood v) (eqb stood v || bit_of (get_or C.give p 0) stood)) e)
    where
      go : (b : Bool) → cond b (replaces C.numbers stood v) (eqb stood v || bit_of (get_or C.give p 0) stood) ≡ true → (b || bit_of (get_or C.give p 0) stood) ≡ true
      go true g = refl
      go false g = rw f at g

  -- one that is not lost may stay, and then does not move
  pub stays : is_lost C.lost p ≡ false → may_go C p stood ≡ true
  unfolding may_go helps yields
  stays e = rw (e, le-leb stood stood (omega arith), eq-eqb stood stood refl, or-true)

  pub still : moves C p stood ≡ false
  unfolding moves
  still = rw (eq-eqb stood stood refl, and-false)

  -- one that is not lost and goes elsewhere moves
  pub goes_off : (v : ℕ) → is_lost C.lost p ≡ false → eqb stood v ≡ false → moves C p v ≡ true
  unfolding moves
  goes_off v e f = rw (e, f)

-- The tests of one lot, decided and not

module _ (R : Rules) (C : Case) (on : ℕ → Bool) (m : List ℕ) (p : ℕ) where
  module _ (h : get_or m p 0 < 16) where
    pub sound_decided : sound R C on m p ≡ lands R C on m p (get_or m p 0)
    unfolding sound
    sound_decided = rw (lt-ltb (get_or m p 0) 16 h)

    pub uses_decided : uses R C on m p ≡ moves C p (get_or m p 0)
    unfolding uses
    uses_decided = rw (lt-ltb (get_or m p 0) 16 h)

  module _ (h : 16 ≤ get_or m p 0) where
    pub sound_undecided : sound R C on m p ≡ (calm R C on m p || may_leave C p)
    unfolding sound
    sound_undecided = rw (le-ltb (get_or m p 0) 16 h)

    pub uses_undecided : uses R C on m p ≡ (not (is_lost C.lost p) && not (calm R C on m p))
    unfolding uses
    uses_undecided = rw (le-ltb (get_or m p 0) 16 h)

    -- it does not have to move
    pub at_rest : has_to R C on m p ≡ false → (is_lost C.lost p ≡ false) × (calm R C on m p ≡ true)
    unfolding has_to
    at_rest e = let c = or_neither (is_lost C.lost p) (not (calm R C on m p)) (rw (le-ltb (get_or m p 0) 16 h) at e) in (c.0, not-false (calm R C on m p) c.1)

-- The parts of the test

module _ (R : Rules) (C : Case) (on : ℕ → Bool) (m : List ℕ) (p v : ℕ) where
  pub record Lands : Type 0 where
    pub domain : in_domain R p v ≡ true
    pub suits : suits_on R on m p v ≡ true
    pub go : may_go C p v ≡ true

  pub lands_read : lands R C on m p v ≡ true → Lands
  unfolding lands
  lands_read e =
      let f = and_right (in_domain R p v) (suits_on R on m p v && may_go C p v) e in
      record { domain = and_left (in_domain R p v) (suits_on R on m p v && may_go C p v) e; suits = and_left (suits_on R on m p v) (may_go C p v) f; go = and_right (suits_on R on m p v) (may_go C p v) f }

  pub lands_make : Lands → lands R C on m p v ≡ true
  unfolding lands
  lands_make a = both a.domain (both a.suits a.go)

module _ (R : Rules) (C : Case) (on : ℕ → Bool) (m : List ℕ) where
  abbrev sound_on : ℕ → Bool
  sound_on p = imp (on p) (sound R C on m p)

  abbrev uses_on : ℕ → Bool
  uses_on p = on p && uses R C on m p

  pub may_make : ((p : ℕ) → p < R.lots → on p ≡ true → sound R C on m p ≡ true) → count uses_on R.lots ≤ C.numbers.b → may R C on m ≡ true
  unfolding may
  may_make h l = both (every_true sound_on R.lots (λ p i. imp_in (on p) (sound R C on m p) (h p i))) (le-leb (count uses_on R.lots) C.numbers.b l)

  module _ (e : may R C on m ≡ true) where
    pub sound_at : (p : ℕ) → p < R.lots → on p ≡ true → sound R C on m p ≡ true
    unfolding may
    sound_at p l o = imp_out (on p) (sound R C on m p) (every_at sound_on R.lots p (and_left (every sound_on R.lots) (leb (count uses_on R.lots) C.numbers.b) e) l) o

    pub few_uses : count uses_on R.lots ≤ C.numbers.b
    unfolding may
    few_uses = leb-true (count uses_on R.lots) C.numbers.b (and_right (every sound_on R.lots) (leb (count uses_on R.lots) C.numbers.b) e)

-- The test is needed

module _ (R : Rules) (C : Case) (on : ℕ → Bool) (r : List ℕ) (q : RepairsOn R C on r) where
  mended : MendsOn R C on r
  mended = mends_on_read R C on r q.good

  kept : KeepsOn R on R.lots r
  kept = rw q.len at (keeps_on_read R on r mended.keep)

  -- what is decided so far, m, is a part of the partial repair r
  module _ (m : List ℕ) (x : Extends R.lots 16 m r) where
    suits_r : (p : ℕ) → p < R.lots → on p ≡ true → suits_on R on m p (get_or r p 0) ≡ true
    suits_r p l o = suits_order R on m r p (λ z i u d. kept.pairs p z l i o u d) (λ z i u h. x z i h)

    -- a lot that is not calm goes elsewhere
    driven : (p : ℕ) → p < R.lots → on p ≡ true → calm R C on m p ≡ false → eqb (get_or C.stands p 0) (get_or r p 0) ≡ false
    unfolding calm
    driven p l o e = ne_eqb (get_or C.stands p 0) (get_or r p 0) (λ z. not_both (suits_r p l o) (ap (suits_on R on m p) (sym z) ∙ e))

    sound_r : (p : ℕ) → p < R.lots → on p ≡ true → sound R C on m p ≡ true
    sound_r p l o = elim (dec_lt (get_or m p 0) 16) [
      | yes h ↦ sound_decided R C on m p h ∙ ap (lands R C on m p) (sym (x p l h)) ∙ lands_make R C on m p (get_or r p 0) (record { domain = kept.domain p l o; suits = suits_r p l o; go = mended.go p (rw q.len l) o })
      | no h ↦ sound_undecided R C on m p (omega arith) ∙ undecided (calm R C on m p) refl
    ]
      where
        undecided : (b : Bool) → calm R C on m p ≡ b → (b || may_leave C p) ≡ true
        undecided true e = refl
        undecided false e = leaves C p (get_or r p 0) (mended.go p (rw q.len l) o) (driven p l o e)

    uses_r : (p : ℕ) → p < R.lots → on p ≡ true → uses R C on m p ≡ true → moves C p (get_or r p 0) ≡ true
    uses_r p l o e = elim (dec_lt (get_or m p 0) 16) [
      | yes h ↦ ap (moves C p) (x p l h) ∙ sym (uses_decided R C on m p h) ∙ e
      | no h ↦ undecided (sym (uses_undecided R C on m p (omega arith)) ∙ e)
    ]
      where
        undecided : (not (is_lost C.lost p) && not (calm R C on m p)) ≡ true → moves C p (get_or r p 0) ≡ true
        undecided f = goes_off C p (get_or r p 0) (not-true (is_lost C.lost p) (and_left (not (is_lost C.lost p)) (not (calm R C on m p)) f)) (driven p l o (not-true (calm R C on m p) (and_right (not (is_lost C.lost p)) (not (calm R C on m p)) f)))

    may_r : may R C on m ≡ true
    may_r =
        let a = rw q.len at mended.few in
        let b = count_fewer (λ p. on p && uses R C on m p) (λ p. on p && moves C p (get_or r p 0)) R.lots R.lots (omega arith) (λ p l t. let o = and_left (on p) (uses R C on m p) t in both o (uses_r p l o (and_right (on p) (uses R C on m p) t))) in
        may_make R C on m sound_r (omega arith)

under_at : (k : ℕ) (l : List ℕ) (i : ℕ) → Under k l → i < length l → get_or l i 0 < k
under_at k [] i u h = absurd (omega arith)
under_at k (x ∷ l) zero u h = u.0
under_at k (x ∷ l) (suc i) u h = under_at k l i u.1 (omega arith)

pub may_needed : (R : Rules) (C : Case) (on : ℕ → Bool) → Needed (RepairsOn R C on) R.lots 16 (may R C on)
may_needed R C on = record { under = λ r q p l. under_at 16 r p q.under (rw q.len l); needed = λ m r q x. may_r R C on r q m x }

-- a lot that can not land where it is tried fails the test
pub may_out : (R : Rules) (C : Case) (on : ℕ → Bool) (m : List ℕ) (p v : ℕ) → p < length m → p < R.lots → on p ≡ true → v < 16 → lands R C on m p v ≡ false → may R C on (set m p v) ≡ false
unfolding lands
may_out R C on m p v i l o h f = false_of (may R C on (set m p v)) (λ e. not_both (there e) f)
  where
    is : get_or (set m p v) p 0 ≡ v
    is = get_or-set_same m p v 0 i

    there : may R C on (set m p v) ≡ true → (in_domain R p v && (suits_on R on m p v && may_go C p v)) ≡ true
    there e = rw (suits_own R on m p v v) at (sym (ap (lands R C on (set m p v) p) is) ∙ sym (sound_decided R C on (set m p v) p (rw is h)) ∙ sound_at R C on (set m p v) e p l o)

-- What passes with more lots on passes with fewer

module _ (R : Rules) (C : Case) (on more : ℕ → Bool) (fewer : (p : ℕ) → p < R.lots → on p ≡ true → more p ≡ true) (m : List ℕ) where
  suits_fewer : (p v : ℕ) → suits_on R more m p v ≡ true → suits_on R on m p v ≡ true
  suits_fewer p v e = suits_make R on m p v (λ q l o. suits_at R more m p v e q l (fewer q l o))

  sound_fewer : (p : ℕ) → sound R C more m p ≡ true → sound R C on m p ≡ true
  unfolding calm
  sound_fewer p e = elim (dec_lt (get_or m p 0) 16) [
    | yes h ↦ sound_decided R C on m p h ∙ decided (lands_read R C more m p (get_or m p 0) (sym (sound_decided R C more m p h) ∙ e))
    | no h ↦ sound_undecided R C on m p (omega arith) ∙ undecided (calm R C more m p) refl (sym (sound_undecided R C more m p (omega arith)) ∙ e)
  ]
    where
      decided : Lands R C more m p (get_or m p 0) → lands R C on m p (get_or m p 0) ≡ true
      decided a = lands_make R C on m p (get_or m p 0) (record { domain = a.domain; suits = suits_fewer p (get_or m p 0) a.suits; go = a.go })

      undecided : (b : Bool) → calm R C more m p ≡ b → (b || may_leave C p) ≡ true → (calm R C on m p || may_leave C p) ≡ true
      undecided true g f = rw (suits_fewer p (get_or C.stands p 0) g)
      undecided false g f = rw (f, or-true)

  uses_more : (p : ℕ) → uses R C on m p ≡ true → uses R C more m p ≡ true
  unfolding calm
  uses_more p e = elim (dec_lt (get_or m p 0) 16) [
    | yes h ↦ uses_decided R C more m p h ∙ sym (uses_decided R C on m p h) ∙ e
    | no h ↦ uses_undecided R C more m p (omega arith) ∙ undecided (sym (uses_undecided R C on m p (omega arith)) ∙ e)
  ]
    where
      undecided : (not (is_lost C.lost p) && not (calm R C on m p)) ≡ true → (not (is_lost C.lost p) && not (calm R C more m p)) ≡ true
      undecided f =
          both (and_left (not (is_lost C.lost p)) (not (calm R C on m p)) f)
          (ap not (false_of (calm R C more m p) (λ t. not_both (suits_fewer p (get_or C.stands p 0) t) (not-true (calm R C on m p) (and_right (not (is_lost C.lost p)) (not (calm R C on m p)) f)))))

  pub may_fewer : may R C more m ≡ true → may R C on m ≡ true
  may_fewer e =
      let a = few_uses R C more m e in
      let b = count_fewer (λ p. on p && uses R C on m p) (λ p. more p && uses R C more m p) R.lots R.lots (omega arith) (λ p l t. both (fewer p l (and_left (on p) (uses R C on m p) t)) (uses_more p (and_right (on p) (uses R C on m p) t))) in
      may_make R C on m (λ p l o. sound_fewer p (sound_at R C more m e p l (fewer p l o))) (omega arith)
