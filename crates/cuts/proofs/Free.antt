-- A loss repaired at once: each lost lot goes to a slot that is left to it beside all placed lots, two lost lots to slots that may stand together, and no
-- other lot moves. Assumes nothing.
use mathlib.Core.Path.{◌≡◌, refl, sym, ◌∙◌}
use mathlib.Core.Bool.{Bool, true, false, ◌&&◌, ◌||◌, cond}
use mathlib.Core.List.{List}
use Prim.Native.Nat.{ℕ, zero, suc, ◌<◌}
use native.Mathlib.Decide.{dec_lt, ℕ_discrete}
use native.Mathlib.Omega.{arith}
use lib.Dec.{eqb}
use lib.ListN.{length, get_or}
use borrow.Author.Tests.{ltb-true, lt-ltb, le-ltb, eq-eqb, ne_eqb}
use Rattle.lex.specs.Every.{count}
use Rattle.lex.specs.Lists.{list_of}
use Rattle.lex.proofs.Dictionary.{under_all}
use Rattle.lex.proofs.Lists.{length_list, list_at}
use Rattle.week.specs.Rules.{Rules, in_domain, together}
use Rattle.week.proofs.Standing.{Symmetric, domain_below}
use Rattle.repair.specs.Repair.{Case, is_lost, replaces, helps, may_go, moves}
use Rattle.parts.specs.Part.{placed}
use Rattle.cuts.specs.Cut.{whole, mended_on}
use Rattle.cuts.specs.Hopes.{is_left, alive}
use Rattle.cuts.proofs.Cut.{KeepsOn, keeps_on_make, mends_on_make, mended_make}
use Rattle.cuts.proofs.Hopes.{suits_read, left_domain, left_suits, alive_keeps}
use Rattle.cuts.proofs.Moves.{stays, still}

count_none : (f : ℕ → Bool) (n : ℕ) → ((p : ℕ) → p < n → f p ≡ false) → count f n ≡ 0
unfolding count
count_none f zero h = refl
count_none f (suc n) h = rw (count_none f n (λ p l. h p (omega arith)), h n (omega arith))

-- every lot p of those that are on goes to slot g p, and no lot that is not lost moves
module _ (R : Rules) (C : Case) (on : ℕ → Bool) (g : ℕ → ℕ) where
  record Moved : Type 0 where
    low : (p : ℕ) → p < R.lots → g p < 16
    domain : (p : ℕ) → p < R.lots → on p ≡ true → in_domain R p (g p) ≡ true
    pairs : (p q : ℕ) → p < R.lots → q < R.lots → on p ≡ true → on q ≡ true → (p ≡ q → ⊥) → together R p (g p) q (g q) ≡ true
    go : (p : ℕ) → p < R.lots → on p ≡ true → may_go C p (g p) ≡ true
    rests : (p : ℕ) → p < R.lots → on p ≡ true → moves C p (g p) ≡ false

  moved_mended : Moved → mended_on R C on ≡ true
  moved_mended m = mended_make R C on goal (record {
    len = long;
    under = under_all goal (λ p l. rw (at p (in_week l)) (m.low p (in_week l)));
    good = mends_on_make R C on goal (record {
      keep = keeps_on_make R on goal (record {
        domain = λ p l o. rw (at p (in_week l)) (m.domain p (in_week l) o);
        pairs = λ p q l i o u d. rw (at p (in_week l), at q (in_week i)) (m.pairs p q (in_week l) (in_week i) o u d);
      });
      go = λ p l o. rw (at p (in_week l)) (m.go p (in_week l) o);
      few = let e = count_none (λ p. on p && moves C p (get_or goal p 0)) (length goal) none in omega arith;
    });
    final = refl;
  })
    where
      goal : List ℕ
      goal = list_of g R.lots

      long : length goal ≡ R.lots
      long = length_list g R.lots

      at : (p : ℕ) → p < R.lots → get_or goal p 0 ≡ g p
      at p l = list_at g R.lots p l

      in_week : {p : ℕ} → p < length goal → p < R.lots
      in_week {p} l = rw long at l

      none : (p : ℕ) → p < length goal → (on p && moves C p (get_or goal p 0)) ≡ false
      none p l = go (on p) refl
        where
          go : (b : Bool) → on p ≡ b → (b && moves C p (get_or goal p 0)) ≡ false
          go true o = rw (at p (in_week l)) (m.rests p (in_week l) o)
          go false o = refl

-- lot x goes to slot v and lot y to slot w; one lot is lost where x is y
pub record Free (R : Rules) (C : Case) (x v y w : ℕ) : Type 0 where
  pub mirror : Symmetric R
  pub live : alive R C.stands ≡ true
  pub lot_x : x < R.lots
  pub lot_y : y < R.lots
  pub lost : (p : ℕ) → is_lost C.lost p ≡ (eqb p x || eqb p y)
  pub left_x : is_left R C.stands x v ≡ true
  pub left_y : is_left R C.stands y w ≡ true
  pub go_x : (helps C.numbers (get_or C.stands x 0) v && replaces C.numbers (get_or C.stands x 0) v) ≡ true
  pub go_y : (helps C.numbers (get_or C.stands y 0) w && replaces C.numbers (get_or C.stands y 0) w) ≡ true
  pub beside : (x ≡ y → ⊥) → together R x v y w ≡ true

module _ {R : Rules} {C : Case} {x v y w : ℕ} (c : Free R C x v y w) where
  abbrev s : List ℕ
  s = C.stands

  abbrev on : ℕ → Bool
  on = placed 16 s

  -- where lot p goes
  unfoldable to : ℕ → ℕ
  to p = cond (eqb p x) v (cond (eqb p y) w (cond (placed 16 s p) (get_or s p 0) 0))

  kept : KeepsOn R on R.lots s
  kept = alive_keeps R s c.live

  at_x : (p : ℕ) → p ≡ x → to p ≡ v
  unfolding to
  at_x p e = rw (eq-eqb p x e)

  at_y : (p : ℕ) → (p ≡ x → ⊥) → p ≡ y → to p ≡ w
  unfolding to
  at_y p d e = rw (ne_eqb p x d, eq-eqb p y e)

  at_rest : (p : ℕ) → (p ≡ x → ⊥) → (p ≡ y → ⊥) → on p ≡ true → to p ≡ get_or s p 0
  unfolding to
  at_rest p d e o = rw (ne_eqb p x d, ne_eqb p y e, o)

  low_x : v < 16
  low_x = domain_below R x v (left_domain R s x v c.left_x)

  low_y : w < 16
  low_y = domain_below R y w (left_domain R s y w c.left_y)

  low : (p : ℕ) → to p < 16
  unfolding to
  low p = elim (ℕ_discrete p x) [
    | yes e ↦ rw (eq-eqb p x e) low_x
    | no d ↦ elim (ℕ_discrete p y) [
      | yes e ↦ rw (ne_eqb p x d, eq-eqb p y e) low_y
      | no e ↦ elim (dec_lt (get_or s p 0) 16) [
        | yes h ↦ rw (ne_eqb p x d, ne_eqb p y e, lt-ltb (get_or s p 0) 16 h) h
        | no h ↦ rw (ne_eqb p x d, ne_eqb p y e, le-ltb (get_or s p 0) 16 (omega arith)) (omega arith)
      ]
    ]
  ]

  -- x and y, beside a lot that stays
  by_x : (q : ℕ) → q < R.lots → (q ≡ x → ⊥) → on q ≡ true → together R x v q (get_or s q 0) ≡ true
  by_x q l d o = suits_read R whole s x v (left_suits R s x v c.left_x) q l refl (λ e. d (sym e)) (ltb-true (get_or s q 0) 16 o)

  by_y : (q : ℕ) → q < R.lots → (q ≡ y → ⊥) → on q ≡ true → together R y w q (get_or s q 0) ≡ true
  by_y q l d o = suits_read R whole s y w (left_suits R s y w c.left_y) q l refl (λ e. d (sym e)) (ltb-true (get_or s q 0) 16 o)

  -- a lot that stays, beside any other
  stays_by : (p q : ℕ) → p < R.lots → q < R.lots → (p ≡ x → ⊥) → (p ≡ y → ⊥) → on p ≡ true → on q ≡ true → (p ≡ q → ⊥) → together R p (get_or s p 0) q (to q) ≡ true
  stays_by p q l m d e o u f = elim (ℕ_discrete q x) [
    | yes z ↦ rw (at_x q z, z) (c.mirror p (get_or s p 0) x v l (ltb-true (get_or s p 0) 16 o) c.lot_x low_x ∙ by_x p l d o)
    | no z ↦ elim (ℕ_discrete q y) [
      | yes a ↦ rw (at_y q z a, a) (c.mirror p (get_or s p 0) y w l (ltb-true (get_or s p 0) 16 o) c.lot_y low_y ∙ by_y p l e o)
      | no a ↦ rw (at_rest q z a u) (kept.pairs p q l m o u f)
    ]
  ]

  goes_by : (p q : ℕ) → p < R.lots → q < R.lots → on p ≡ true → on q ≡ true → (p ≡ q → ⊥) → together R p (to p) q (to q) ≡ true
  goes_by p q l m o u f = elim (ℕ_discrete p x) [
    | yes z ↦ rw (at_x p z, z) (elim (ℕ_discrete q y) [
      | yes a ↦ rw (at_y q (λ b. f (z ∙ sym b)) a, a) (c.beside (λ b. f (z ∙ b ∙ sym a)))
      | no a ↦ rw (at_rest q (λ b. f (z ∙ sym b)) a u) (by_x q m (λ b. f (z ∙ sym b)) u)
    ])
    | no z ↦ elim (ℕ_discrete p y) [
      | yes a ↦ rw (at_y p z a, a) (elim (ℕ_discrete q x) [
        | yes b ↦ rw (at_x q b, b) (c.mirror y w x v c.lot_y low_y c.lot_x low_x ∙ c.beside (λ e. z (a ∙ sym e)))
        | no b ↦ rw (at_rest q b (λ e. f (a ∙ sym e)) u) (by_y q m (λ e. f (a ∙ sym e)) u)
      ])
      | no a ↦ rw (at_rest p z a o) (stays_by p q l m z a o u f)
    ]
  ]

  lost_or : (p : ℕ) → (p ≡ x → ⊥) → (p ≡ y → ⊥) → is_lost C.lost p ≡ false
  lost_or p d e = c.lost p ∙ rw (ne_eqb p x d, ne_eqb p y e)

  lost_x : is_lost C.lost x ≡ true
  lost_x = c.lost x ∙ rw (eq-eqb x x refl)

  lost_y : is_lost C.lost y ≡ true
  lost_y = c.lost y ∙ go (eqb y x)
    where
      go : (b : Bool) → (b || eqb y y) ≡ true
      go true = refl
      go false = eq-eqb y y refl

  may_lost : (p a : ℕ) → is_lost C.lost p ≡ true → (helps C.numbers (get_or C.stands p 0) a && replaces C.numbers (get_or C.stands p 0) a) ≡ true → may_go C p a ≡ true
  unfolding may_go
  may_lost p a e f = rw e f

  moves_lost : (p a : ℕ) → is_lost C.lost p ≡ true → moves C p a ≡ false
  unfolding moves
  moves_lost p a e = rw e

  pub free_mended : mended_on R C on ≡ true
  free_mended = moved_mended R C on to (record {
    low = λ p l. low p;
    domain = λ p l o. elim (ℕ_discrete p x) [
      | yes z ↦ rw (at_x p z, z) (left_domain R s x v c.left_x)
      | no z ↦ elim (ℕ_discrete p y) [
        | yes a ↦ rw (at_y p z a, a) (left_domain R s y w c.left_y)
        | no a ↦ rw (at_rest p z a o) (kept.domain p l o)
      ]
    ];
    pairs = goes_by;
    go = λ p l o. elim (ℕ_discrete p x) [
      | yes z ↦ rw (at_x p z, z) (may_lost x v lost_x c.go_x)
      | no z ↦ elim (ℕ_discrete p y) [
        | yes a ↦ rw (at_y p z a, a) (may_lost y w lost_y c.go_y)
        | no a ↦ rw (at_rest p z a o) (stays C p (lost_or p z a))
      ]
    ];
    rests = λ p l o. elim (ℕ_discrete p x) [
      | yes z ↦ rw z (moves_lost x (to x) lost_x)
      | no z ↦ elim (ℕ_discrete p y) [
        | yes a ↦ rw a (moves_lost y (to y) lost_y)
        | no a ↦ rw (at_rest p z a o) (still C p)
      ]
    ];
  })
