-- The search of `parts` with the test `hopes` decides whether a super solution extends a partial order; and lot by lot it comes to the first one.
-- The tables may be any: what is needed and what is enough is read off pair by pair, both ways. Assumes nothing.
use mathlib.Core.Path.{◌≡◌, refl, sym, ◌∙◌, ap}
use mathlib.Core.Bool.{Bool, true, false, not, or-true}
use mathlib.Core.Logic.{◌≢◌}
use mathlib.Core.List.{List}
use mathlib.Core.Option.{Option, none, some}
use Prim.Native.Nat.{ℕ, ◌≤◌, ◌<◌}
use native.Mathlib.Decide.{dec_lt, ℕ_discrete}
use native.Mathlib.Omega.{arith}
use lib.ListN.{length, get_or, set, take}
use lib.Seq.{get_or-set_other, get_or-take, length-take-le}
use borrow.Author.Tests.{lt-ltb, le-ltb, ltb-true, eq-eqb, ne_eqb}
use Rattle.lex.specs.Dictionary.{Meets}
use Rattle.lex.specs.Every.{imp}
use Rattle.lex.proofs.Dictionary.{under_all}
use Rattle.lex.proofs.Every.{both, and_left, and_right, imp_in, imp_out, every_true, every_at, every_false, every_cong}
use Rattle.lex.proofs.First.{first_is}
use Rattle.week.specs.Rules.{Rules, in_domain, together, keeps, beside}
use Rattle.week.specs.Tables.{Week, lots, pair_rules}
use Rattle.week.proofs.Standing.{keeps_below, keeps_closed}
use Rattle.robust.specs.Super.{robust, first_super}
use Rattle.parts.specs.Part.{placed, Extends, Agrees, Full, Empty, Tested, Decides}
use Rattle.parts.proofs.Outer.{Fixed, fixed_found, fixed_none}
use Rattle.cuts.specs.Cut.{whole, keeps_on, robust_on}
use Rattle.cuts.specs.Hopes.{suits, suits_on, is_left, any, lives, alive, hopes, Supers}
use Rattle.cuts.proofs.Cut.{KeepsOn, keeps_on_read, keeps_on_make, keeps_whole, robust_whole, robust_shrink}

pub any_hit : (f : ℕ → Bool) (n v : ℕ) → v < n → f v ≡ true → any f n ≡ true
unfolding any
any_hit f n v l e = ap not (every_false (λ w. not (f w)) n v l (ap not e))

-- Lots that do not clash

module _ (R : Rules) (s : List ℕ) (p v q : ℕ) where
  pub suits_self : p ≡ q → suits R s p v q ≡ true
  unfolding suits
  suits_self e = rw (eq-eqb p q e)

  pub suits_free : 16 ≤ get_or s q 0 → suits R s p v q ≡ true
  unfolding suits
  suits_free h = rw (le-ltb (get_or s q 0) 16 h, or-true)

  pub suits_with : (p ≡ q → ⊥) → get_or s q 0 < 16 → suits R s p v q ≡ together R p v q (get_or s q 0)
  unfolding suits beside
  suits_with h g = rw (ne_eqb p q h, lt-ltb (get_or s q 0) 16 g)

-- only where q stands matters
pub suits_else : (R : Rules) (s : List ℕ) (x v p w q : ℕ) → q ≢ x → suits R (set s x v) p w q ≡ suits R s p w q
unfolding suits beside
suits_else R s x v p w q h = rw (get_or-set_other s x q v 0 h)

module _ (R : Rules) (on : ℕ → Bool) (s : List ℕ) (p v : ℕ) where
  pub suits_make : ((q : ℕ) → q < R.lots → on q ≡ true → suits R s p v q ≡ true) → suits_on R on s p v ≡ true
  unfolding suits_on
  suits_make h = every_true (λ q. imp (on q) (suits R s p v q)) R.lots (λ q l. imp_in (on q) (suits R s p v q) (h q l))

  pub suits_at : suits_on R on s p v ≡ true → (q : ℕ) → q < R.lots → on q ≡ true → suits R s p v q ≡ true
  unfolding suits_on
  suits_at e q l o = imp_out (on q) (suits R s p v q) (every_at (λ q. imp (on q) (suits R s p v q)) R.lots q e l) o

  pub suits_read : suits_on R on s p v ≡ true → (q : ℕ) → q < R.lots → on q ≡ true → (p ≡ q → ⊥) → get_or s q 0 < 16 → together R p v q (get_or s q 0) ≡ true
  suits_read e q l o d h = sym (suits_with R s p v q d h) ∙ suits_at e q l o

-- where a lot itself stands does not matter to it
pub suits_own : (R : Rules) (on : ℕ → Bool) (s : List ℕ) (p v w : ℕ) → suits_on R on (set s p v) p w ≡ suits_on R on s p w
unfolding suits_on
suits_own R on s p v w = every_cong (λ q. imp (on q) (suits R (set s p v) p w q)) (λ q. imp (on q) (suits R s p w q)) R.lots (λ q l. ap (imp (on q)) (one q))
  where
    one : (q : ℕ) → suits R (set s p v) p w q ≡ suits R s p w q
    one q = elim (ℕ_discrete p q) [
      | yes e ↦ suits_self R (set s p v) p w q e ∙ sym (suits_self R s p w q e)
      | no e ↦ suits_else R s p v p w q (λ z. e (sym z))
    ]

-- in an order whose lot p stands well with the lots that are on, and that has those where s has them
pub suits_order : (R : Rules) (on : ℕ → Bool) (s t : List ℕ) (p : ℕ) → ((q : ℕ) → q < R.lots → on q ≡ true → (p ≡ q → ⊥) → together R p (get_or t p 0) q (get_or t q 0) ≡ true) → Agrees R.lots 16 on s t → suits_on R on s p (get_or t p 0) ≡ true
suits_order R on s t p k x = suits_make R on s p (get_or t p 0) one
  where
    one : (q : ℕ) → q < R.lots → on q ≡ true → suits R s p (get_or t p 0) q ≡ true
    one q l o = elim (ℕ_discrete p q) [
      | yes e ↦ suits_self R s p (get_or t p 0) q e
      | no e ↦ elim (dec_lt (get_or s q 0) 16) [
        | yes h ↦ suits_with R s p (get_or t p 0) q e h ∙ ap (together R p (get_or t p 0) q) (sym (x q l o h)) ∙ k q l o e
        | no h ↦ suits_free R s p (get_or t p 0) q (omega arith)
      ]
    ]

-- Slots that are left

module _ (R : Rules) (s : List ℕ) where
  module _ (p v : ℕ) (e : is_left R s p v ≡ true) where
    pub left_domain : in_domain R p v ≡ true
    unfolding is_left
    left_domain = and_left (in_domain R p v) (suits_on R whole s p v) e

    pub left_suits : suits_on R whole s p v ≡ true
    unfolding is_left
    left_suits = and_right (in_domain R p v) (suits_on R whole s p v) e

  pub lives_here : (p : ℕ) → get_or s p 0 < 16 → lives R s p ≡ is_left R s p (get_or s p 0)
  unfolding lives
  lives_here p h = rw (lt-ltb (get_or s p 0) 16 h)

  pub lives_free : (p : ℕ) → 16 ≤ get_or s p 0 → lives R s p ≡ any (is_left R s p) 16
  unfolding lives
  lives_free p h = rw (le-ltb (get_or s p 0) 16 h)

  -- an order that keeps the rules and extends s has each lot in a slot that is left to it
  pub left_order : (t : List ℕ) → length t ≡ R.lots → keeps R t ≡ true → Extends R.lots 16 s t → (p : ℕ) → p < R.lots → is_left R s p (get_or t p 0) ≡ true
  unfolding is_left
  left_order t n e x p l = both (k.domain p l refl) (suits_order R whole s t p (λ q m o d. k.pairs p q l m refl refl d) (λ q m o h. x q m h))
    where
      k : KeepsOn R whole R.lots t
      k = rw n at (keeps_on_read R whole t (keeps_whole R t ∙ e))

  alive_needed : (t : List ℕ) → length t ≡ R.lots → keeps R t ≡ true → Extends R.lots 16 s t → alive R s ≡ true
  unfolding alive
  alive_needed t n e x = every_true (lives R s) R.lots (λ p l. elim (dec_lt (get_or s p 0) 16) [
    | yes h ↦ lives_here p h ∙ ap (is_left R s p) (sym (x p l h)) ∙ left_order t n e x p l
    | no h ↦ lives_free p (omega arith) ∙ any_hit (is_left R s p) 16 (get_or t p 0) (keeps_below R t e p (omega arith)) (left_order t n e x p l)
  ])

  -- the lots that s places keep the rules
  pub alive_keeps : alive R s ≡ true → KeepsOn R (placed 16 s) R.lots s
  unfolding alive
  alive_keeps e = record {
    domain = λ p l o. left_domain p (get_or s p 0) (here p l o);
    pairs = λ p q l m o u d. suits_read R whole s p (get_or s p 0) (left_suits p (get_or s p 0) (here p l o)) q m refl d (ltb-true (get_or s q 0) 16 u);
  }
    where
      here : (p : ℕ) → p < R.lots → placed 16 s p ≡ true → is_left R s p (get_or s p 0) ≡ true
      here p l o = sym (lives_here p (ltb-true (get_or s p 0) 16 o)) ∙ every_at (lives R s) R.lots p e l

-- The test of the search for super solutions

module _ (W : Week) where
  pub supers_long : (t : List ℕ) → Supers W t → length t ≡ lots W
  supers_long t q = q.len

  pub supers_under : (t : List ℕ) → Supers W t → Full (lots W) 16 t
  supers_under t q p l = keeps_below (pair_rules W) t q.good p (rw q.len l)

  hopes_needed : (s t : List ℕ) → Supers W t → Extends (lots W) 16 s t → hopes W s ≡ true
  unfolding hopes
  hopes_needed s t q x =
      both (alive_needed (pair_rules W) s t q.len q.good x)
      (robust_shrink W (placed 16 s) whole s t (λ p l o. (refl, x p l (ltb-true (get_or s p 0) 16 o))) (robust_whole W t ∙ q.final))

  hopes_exact : (s : List ℕ) → lots W ≤ length s → Full (lots W) 16 s → hopes W s ≡ true → Supers W (take (lots W) s)
  unfolding hopes
  hopes_exact s h f e = record { len = long; under = under_all (take (lots W) s) (λ p l. rw (at p (rw long at l)) (f p (rw long at l))); good = sym (keeps_whole (pair_rules W) (take (lots W) s)) ∙ kept; final = sym (robust_whole W (take (lots W) s)) ∙ safe }
    where
      long : length (take (lots W) s) ≡ lots W
      long = length-take-le (lots W) s h

      at : (p : ℕ) → p < lots W → get_or (take (lots W) s) p 0 ≡ get_or s p 0
      at p l = get_or-take (lots W) s p 0 l

      on : (p : ℕ) → p < lots W → placed 16 s p ≡ true
      on p l = lt-ltb (get_or s p 0) 16 (f p l)

      k : KeepsOn (pair_rules W) (placed 16 s) (lots W) s
      k = alive_keeps (pair_rules W) s (and_left (alive (pair_rules W) s) (robust_on W (placed 16 s) s) e)

      kept : keeps_on (pair_rules W) whole (take (lots W) s) ≡ true
      kept = keeps_on_make (pair_rules W) whole (take (lots W) s) (record {
        domain = λ p l o. let i : p < lots W = rw long at l in rw (at p i) (k.domain p i (on p i));
        pairs = λ p q l m o u d. let i : p < lots W = rw long at l in let j : q < lots W = rw long at m in rw (at p i, at q j) (k.pairs p q i j (on p i) (on q j) d);
      })

      safe : robust_on W whole (take (lots W) s) ≡ true
      safe = robust_shrink W whole (placed 16 s) (take (lots W) s) s (λ p l o. (on p l, sym (at p l))) (and_right (alive (pair_rules W) s) (robust_on W (placed 16 s) s) e)

  -- a super solution cut down to the placed lots passes, and a whole order that passes is one
  pub hopes_tested : Tested (Supers W) (lots W) 16 (hopes W)
  hopes_tested = record { must = record { under = supers_under; needed = hopes_needed }; exact = hopes_exact }

  -- The first super solution

  pub super_first : (o : Option (List ℕ)) → Meets (Supers W) o → first_super W ≡ o
  unfolding first_super
  super_first o m = sym (first_is (keeps (pair_rules W)) (robust W) 16 (keeps_closed (pair_rules W)) (lots W) o m)

  -- nothing extends the order that places no lot
  pub super_none : (s o : List ℕ) → Empty (lots W) 16 s → Decides (Supers W) (lots W) 16 s false o → first_super W ≡ none
  super_none s o h e = super_first none (fixed_none (Supers W) (lots W) 16 s o h e)

  -- every lot is fixed
  pub super_found : {s t : List ℕ} {d : ℕ} → Fixed (Supers W) (lots W) 16 s t d → d ≡ lots W → first_super W ≡ some (take (lots W) s)
  super_found {s} f e = super_first (some (take (lots W) s)) (fixed_found supers_long supers_under f e)
