-- Reasons why no super solution extends a partial order: some lot has no slot left beside it, or it has a break without a partial repair. And what holds beside
-- more placed lots holds beside fewer. Assumes nothing.
use mathlib.Core.Path.{◌≡◌, refl, sym, ◌∙◌, ap}
use mathlib.Core.Bool.{Bool, true, false, ◌&&◌, not}
use mathlib.Core.List.{List}
use Prim.Native.Nat.{ℕ, ◌<◌}
use native.Mathlib.Decide.{dec_lt, ℕ_discrete}
use native.Mathlib.Omega.{arith}
use lib.ListN.{get_or}
use borrow.Author.Tests.{lt-ltb, not-true, not-false}
use Rattle.lex.specs.Every.{every, every_of}
use Rattle.lex.proofs.Every.{both, and_right, not_both, same_truth, every_true, every_at, every_miss, every_of_imp}
use Rattle.week.specs.Rules.{Rules, bit_of, together}
use Rattle.week.specs.Tables.{Week, lots, pair_rules}
use Rattle.week.proofs.Words.{bit_zero, bit_below}
use Rattle.repair.specs.Break.{breaks}
use Rattle.parts.specs.Part.{placed, Extends}
use Rattle.cuts.specs.Cut.{whole, mended_on, breaks_on, safe_on}
use Rattle.cuts.specs.Hopes.{is_left, any, lives, alive}
use Rattle.cuts.specs.Reasons.{None, asked}
use Rattle.cuts.proofs.Cut.{safe_free, safe_mended}
use Rattle.cuts.proofs.Hopes.{any_hit, suits_self, suits_free, suits_with, suits_make, suits_read, left_domain, left_suits, left_order, lives_here, lives_free}

-- Fewer placed lots: r is a part of s

module _ (R : Rules) (r s : List ℕ) (x : Extends R.lots 16 r s) where
  pub left_part : (p v : ℕ) → is_left R s p v ≡ true → is_left R r p v ≡ true
  unfolding is_left
  left_part p v e = both (left_domain R s p v e) (suits_make R whole r p v (λ q l o. elim (ℕ_discrete p q) [
    | yes z ↦ suits_self R r p v q z
    | no z ↦ elim (dec_lt (get_or r q 0) 16) [
      | yes h ↦ suits_with R r p v q z h ∙ ap (together R p v q) (sym (x q l h)) ∙ suits_read R whole s p v (left_suits R s p v e) q l refl z (rw (x q l h) h)
      | no h ↦ suits_free R r p v q (omega arith)
    ]
  ]))

  some_left : (p : ℕ) → lives R s p ≡ true → any (is_left R r p) 16 ≡ true
  unfolding any
  some_left p e = elim (dec_lt (get_or s p 0) 16) [
    | yes h ↦ any_hit (is_left R r p) 16 (get_or s p 0) h (left_part p (get_or s p 0) (sym (lives_here R s p h) ∙ e))
    | no h ↦ let m = every_miss (λ v. not (is_left R s p v)) 16 (not-true (every (λ v. not (is_left R s p v)) 16) (sym (lives_free R s p (omega arith)) ∙ e)) in any_hit (is_left R r p) 16 m.at m.below (left_part p m.at (not-false (is_left R s p m.at) m.fails))
  ]

  pub alive_part : alive R s ≡ true → alive R r ≡ true
  unfolding alive
  alive_part e = every_true (lives R r) R.lots (λ p l. elim (dec_lt (get_or r p 0) 16) [
    | yes h ↦ lives_here R r p h ∙ left_part p (get_or r p 0) (ap (is_left R s p) (sym (x p l h)) ∙ sym (lives_here R s p (rw (x p l h) h)) ∙ every_at (lives R s) R.lots p e l)
    | no h ↦ lives_free R r p (omega arith) ∙ some_left p (every_at (lives R s) R.lots p e l)
  ])

-- Losses

-- no slot over 15 is in a loss word: a break of the order is one of the placed lots
breaks_placed : (loss s A : List ℕ) → breaks loss s A ≡ breaks_on loss (placed 16 s) s A
unfolding breaks breaks_on
breaks_placed loss s A =
    same_truth (every_of at A) (every_of on A) (every_of_imp at on A (λ p t. both (lt-ltb (get_or s p 0) 16 (bit_below (get_or loss p 0) (get_or s p 0) t)) t)) (every_of_imp on at A (λ p t. and_right (placed 16 s p) (at p) t))
  where
    at : ℕ → Bool
    at p = bit_of (get_or loss p 0) (get_or s p 0)

    on : ℕ → Bool
    on p = placed 16 s p && at p

module _ (W : Week) (s A : List ℕ) where
  -- it is no break
  pub safe_whole : breaks W.loss s A ≡ false → safe_on W (placed 16 s) s A ≡ true
  safe_whole e = sym (safe_free W (placed 16 s) s A (sym (breaks_placed W.loss s A) ∙ e))

  -- it is one, and has a partial repair
  pub safe_repaired : breaks W.loss s A ≡ true → mended_on (pair_rules W) (asked W s A) (placed 16 s) ≡ true → safe_on W (placed 16 s) s A ≡ true
  safe_repaired e f = sym (safe_mended W (placed 16 s) s A true (sym (breaks_placed W.loss s A) ∙ e) (sym f))

-- Reasons

module _ (W : Week) where
  -- no slot is left to lot p
  pub starved_none : (r : List ℕ) (p : ℕ) → p < lots W → ((v : ℕ) → is_left (pair_rules W) r p v ≡ true → bit_of 0 v ≡ true) → None W r
  starved_none r p l h u q e = not_both (h (get_or u p 0) (left_order (pair_rules W) r u q.len q.good e p l)) (bit_zero (get_or u p 0))
