-- Partial repairs by forced moves: where no lot is left that has to move, the test `may` is enough. Assumes nothing.
use mathlib.Core.Path.{◌≡◌, refl, sym, ◌∙◌, ap}
use mathlib.Core.Bool.{Bool, true, false, ◌&&◌, cond}
use mathlib.Core.List.{List}
use Prim.Native.Nat.{ℕ, ◌≤◌, ◌<◌}
use native.Mathlib.Decide.{dec_lt}
use native.Mathlib.Omega.{arith}
use lib.ListN.{length, get_or}
use borrow.Author.Tests.{lt-ltb, le-ltb}
use Rattle.lex.specs.Lists.{list_of}
use Rattle.lex.proofs.Dictionary.{under_all}
use Rattle.lex.proofs.Every.{both, and_left, and_right, not_both}
use Rattle.lex.proofs.Lists.{length_list, list_at}
use Rattle.week.specs.Rules.{Rules, together}
use Rattle.week.proofs.Standing.{Symmetric, domain_below}
use Rattle.repair.specs.Repair.{Case, is_lost, moves}
use Rattle.parts.specs.Part.{placed}
use Rattle.cuts.specs.Cut.{mended_on}
use Rattle.cuts.specs.Hopes.{suits_on}
use Rattle.cuts.specs.Moves.{calm, uses, may, Settled}
use Rattle.cuts.proofs.Cut.{KeepsOn, keeps_on_make, count_fewer, MendsOn, mends_on_make, mended_make}
use Rattle.cuts.proofs.Hopes.{suits_read}
use Rattle.cuts.proofs.Moves.{stays, still, sound_decided, uses_decided, at_rest, Lands, lands_read, sound_at, few_uses}

-- where lot p goes; 0 where it is not on
unfoldable to : Case → List ℕ → ℕ → ℕ
to C m p = cond (placed 16 m p) (get_or m p 0) (cond (placed 16 C.stands p) (get_or C.stands p 0) 0)

module _ (C : Case) (m : List ℕ) (p : ℕ) where
  to_decided : get_or m p 0 < 16 → to C m p ≡ get_or m p 0
  unfolding to
  to_decided h = rw (lt-ltb (get_or m p 0) 16 h)

  to_rest : 16 ≤ get_or m p 0 → get_or C.stands p 0 < 16 → to C m p ≡ get_or C.stands p 0
  unfolding to
  to_rest h g = rw (le-ltb (get_or m p 0) 16 h, lt-ltb (get_or C.stands p 0) 16 g)

  to_under : to C m p < 16
  unfolding to
  to_under = elim (dec_lt (get_or m p 0) 16) [
    | yes h ↦ rw (lt-ltb (get_or m p 0) 16 h) h
    | no h ↦ rw (le-ltb (get_or m p 0) 16 (omega arith)) (elim (dec_lt (get_or C.stands p 0) 16) [
      | yes g ↦ rw (lt-ltb (get_or C.stands p 0) 16 g) g
      | no g ↦ rw (le-ltb (get_or C.stands p 0) 16 (omega arith)) (omega arith)
    ])
  ]

-- what is known of where lot p goes
record Goes (R : Rules) (C : Case) (on : ℕ → Bool) (m : List ℕ) (p v : ℕ) : Type 0 where
  fit : Lands R C on m p v
  counted : moves C p v ≡ true → uses R C on m p ≡ true

module _ (R : Rules) (C : Case) (on : ℕ → Bool) (mirror : Symmetric R) (stand : KeepsOn R on R.lots C.stands) (m : List ℕ) (e : may R C on m ≡ true) (settled : Settled R C on m) where
  stood_under : (p : ℕ) → p < R.lots → on p ≡ true → get_or C.stands p 0 < 16
  stood_under p l o = domain_below R p (get_or C.stands p 0) (stand.domain p l o)

  -- a decided lot goes, and any other stays
  goes : (p : ℕ) → p < R.lots → on p ≡ true → Goes R C on m p (to C m p)
  unfolding calm
  goes p l o = elim (dec_lt (get_or m p 0) 16) [
    | yes h ↦ rw (to_decided C m p h) (record { fit = lands_read R C on m p (get_or m p 0) (sym (sound_decided R C on m p h) ∙ sound_at R C on m e p l o); counted = λ t. uses_decided R C on m p h ∙ t })
    | no h ↦ rw (to_rest C m p (omega arith) (stood_under p l o)) (rest (at_rest R C on m p (omega arith) (settled p l o)))
  ]
    where
      rest : (is_lost C.lost p ≡ false) × (suits_on R on m p (get_or C.stands p 0) ≡ true) → Goes R C on m p (get_or C.stands p 0)
      rest a = record { fit = record { domain = stand.domain p l o; suits = a.1; go = stays C p a.0 }; counted = λ t. absurd (not_both t (still C p)) }

  -- no lot clashes with a decided one
  beside_decided : (p q : ℕ) → p < R.lots → q < R.lots → on p ≡ true → on q ≡ true → (p ≡ q → ⊥) → get_or m q 0 < 16 → together R p (to C m p) q (to C m q) ≡ true
  beside_decided p q l i o u d h = rw (to_decided C m q h) (suits_read R on m p (to C m p) (goes p l o).fit.suits q i u d h)

  beside : (p q : ℕ) → p < R.lots → q < R.lots → on p ≡ true → on q ≡ true → (p ≡ q → ⊥) → together R p (to C m p) q (to C m q) ≡ true
  beside p q l i o u d = elim (dec_lt (get_or m q 0) 16) [
    | yes h ↦ beside_decided p q l i o u d h
    | no h ↦ elim (dec_lt (get_or m p 0) 16) [
      | yes g ↦ mirror p (to C m p) q (to C m q) l (to_under C m p) i (to_under C m q) ∙ beside_decided q p i l u o (λ z. d (sym z)) g
      | no g ↦ rw (to_rest C m p (omega arith) (stood_under p l o), to_rest C m q (omega arith) (stood_under q i u)) (stand.pairs p q l i o u d)
    ]
  ]

  -- the partial repair
  abbrev goal : List ℕ
  goal = list_of (to C m) R.lots

  abbrev at : (p : ℕ) → p < R.lots → get_or goal p 0 ≡ to C m p
  at p l = list_at (to C m) R.lots p l

  long : length goal ≡ R.lots
  long = length_list (to C m) R.lots

  in_week : {p : ℕ} → p < length goal → p < R.lots
  in_week {p} l = rw long at l

  goal_mends : MendsOn R C on goal
  goal_mends = record {
    keep = keeps_on_make R on goal (record {
      domain = λ p l o. rw (at p (in_week l)) (goes p (in_week l) o).fit.domain;
      pairs = λ p q l i o u d. rw (at p (in_week l), at q (in_week i)) (beside p q (in_week l) (in_week i) o u d);
    });
    go = λ p l o. rw (at p (in_week l)) (goes p (in_week l) o).fit.go;
    few = rw long (let a = few_uses R C on m e in let b = count_fewer (λ p. on p && moves C p (get_or goal p 0)) (λ p. on p && uses R C on m p) R.lots R.lots (omega arith) used in omega arith);
  }
    where
      used : (p : ℕ) → p < R.lots → (on p && moves C p (get_or goal p 0)) ≡ true → (on p && uses R C on m p) ≡ true
      used p l t =
          let o = and_left (on p) (moves C p (get_or goal p 0)) t in
          both o ((goes p l o).counted (ap (moves C p) (sym (at p l)) ∙ and_right (on p) (moves C p (get_or goal p 0)) t))

  -- on a symmetric tie table, and where the lots that are on keep the rules as they stand
  pub settled_mended : mended_on R C on ≡ true
  settled_mended = mended_make R C on goal (record { len = long; under = under_all goal (λ p l. rw (at p (in_week l)) (to_under C m p)); good = mends_on_make R C on goal goal_mends; final = refl })
