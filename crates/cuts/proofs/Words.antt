-- Forward words: one more placed lot takes from every other lot's word the slots that clash with it, by one meet with a tie word; a lot that is not placed
-- lives while its word is not 0. Assumes nothing.
use mathlib.Core.Path.{◌≡◌, refl, sym, ◌∙◌, ap}
use mathlib.Core.Bool.{Bool, true, false, ◌&&◌, not, and-true}
use mathlib.Core.Logic.{◌≢◌}
use mathlib.Core.List.{List}
use Prim.Native.Nat.{ℕ, ◌^◌, ◌≤◌, ◌<◌}
use native.Mathlib.Decide.{dec_lt, ℕ_discrete}
use native.Mathlib.Omega.{arith}
use lib.Bits.{bit_and, and_zero_r}
use lib.Dec.{eqb}
use lib.ListN.{length, get_or, set}
use lib.Seq.{get_or-set_same, get_or-set_other}
use borrow.Author.Tests.{eqb-true, eq-eqb, ne_eqb, le-ltb, not-true, not-false}
use Rattle.lex.specs.Every.{imp, every}
use Rattle.lex.proofs.Every.{both, and_left, and_right, not_both, same_truth, imp_in, every_true, every_at, every_miss}
use Rattle.week.specs.Rules.{Rules, bit_of, inside, in_domain, tie_word, together}
use Rattle.week.proofs.Standing.{Symmetric}
use Rattle.week.proofs.Words.{bit_and_lem, bit_zero, inside_and}
use Rattle.parts.specs.Part.{Empty}
use Rattle.cuts.specs.Cut.{whole}
use Rattle.cuts.specs.Hopes.{suits, is_left, Forward, any, lives, alive}
use Rattle.cuts.proofs.Hopes.{suits_free, suits_with, suits_else, suits_own, suits_make, suits_at, suits_read, left_domain, left_suits, lives_here, lives_free}

-- slots over 15 are in no word
pub bit_high : (y v : ℕ) → 16 ≤ v → bit_of y v ≡ false
unfolding bit_of
bit_high y v h = rw (le-ltb v 16 h)

pub tie_bit : (R : Rules) (p v q w : ℕ) → bit_of (tie_word R.lots R.ties p v q) w ≡ together R p v q w
unfolding together
tie_bit R p v q w = refl

-- Lot x, which was not placed, gets slot v

module _ (R : Rules) (s : List ℕ) (x v : ℕ) (inside-s : x < length s) (lot : x < R.lots) (idle : 16 ≤ get_or s x 0) (low : v < 16) where
  abbrev t : List ℕ
  t = set s x v

  suits_new : (p w : ℕ) → p ≢ x → suits R t p w x ≡ together R p w x v
  suits_new p w h = suits_with R t p w x h (rw (get_or-set_same s x v 0 inside-s) low) ∙ rw (get_or-set_same s x v 0 inside-s)

  -- its own slots stay
  pub left_own : (w : ℕ) → is_left R t x w ≡ is_left R s x w
  unfolding is_left
  left_own w = ap (λ (b : Bool). in_domain R x w && b) (suits_own R whole s x v w)

  -- of another lot those stay that do not clash with x
  pub left_other : (p w : ℕ) → p ≢ x → is_left R t p w ≡ (is_left R s p w && together R p w x v)
  unfolding is_left
  left_other p w h =
      same_truth (is_left R t p w) (is_left R s p w && together R p w x v)
      (λ e. both (both (left_domain R t p w e) (suits_make R whole s p w (λ q l o. elim (ℕ_discrete q x) [
        | yes z ↦ rw z (suits_free R s p w x idle)
        | no z ↦ sym (suits_else R s x v p w q z) ∙ suits_at R whole t p w (left_suits R t p w e) q l refl
      ]))) (sym (suits_new p w h) ∙ suits_at R whole t p w (left_suits R t p w e) x lot refl))
      (λ e. let f = and_left (is_left R s p w) (together R p w x v) e in both (left_domain R s p w f) (suits_make R whole t p w (λ q l o. elim (ℕ_discrete q x) [
        | yes z ↦ rw z (suits_new p w h ∙ and_right (is_left R s p w) (together R p w x v) e)
        | no z ↦ suits_else R s x v p w q z ∙ suits_at R whole s p w (left_suits R s p w f) q l refl
      ])))

  -- x clashes with no lot where it goes, and the placed lots lived before: they do, and only the others need be looked at
  pub alive_place : Symmetric R → alive R s ≡ true → is_left R s x v ≡ true → ((p : ℕ) → p < R.lots → 16 ≤ get_or t p 0 → lives R t p ≡ true) → alive R t ≡ true
  unfolding alive
  alive_place mirror e f rest = every_true (lives R t) R.lots (λ p l. elim (dec_lt (get_or t p 0) 16) [
    | yes h ↦ lives_here R t p h ∙ elim (ℕ_discrete p x) [ yes z ↦ rw (z, get_or-set_same s x v 0 inside-s) (left_own v ∙ f) | no z ↦ other p l z (rw (get_or-set_other s x p v 0 z) at h) ]
    | no h ↦ rest p l (omega arith)
  ])
    where
      other : (p : ℕ) → p < R.lots → p ≢ x → get_or s p 0 < 16 → is_left R t p (get_or t p 0) ≡ true
      other p l z h =
          rw (get_or-set_other s x p v 0 z)
          (left_other p (get_or s p 0) z
          ∙ both (sym (lives_here R s p h) ∙ every_at (lives R s) R.lots p e l)
          (mirror p (get_or s p 0) x v l h lot low ∙ suits_read R whole s x v (left_suits R s x v f) p l refl (λ y. z (sym y)) h))

  -- its own forward word stays, and each other is met with the tie word of x in v beside its lot
  pub forward_place : Symmetric R → (words new : List ℕ) → Forward R s words → get_or new x 0 ≡ get_or words x 0 → ((p : ℕ) → p < R.lots → p ≢ x → get_or new p 0 ≡ bit_and (get_or words p 0) (tie_word R.lots R.ties x v p)) → Forward R t new
  forward_place mirror words new f own others p l w = elim (ℕ_discrete p x) [
    | yes z ↦ rw (z, own) (f x lot w ∙ sym (left_own w))
    | no z ↦ rw (others p l z) (bit_and_lem (get_or words p 0) (tie_word R.lots R.ties x v p) w ∙ rw (f p l w, tie_bit R x v p w) meet ∙ sym (left_other p w z))
  ]
    where
      meet : (is_left R s p w && together R x v p w) ≡ (is_left R s p w && together R p w x v)
      meet = elim (dec_lt w 16) [
        | yes h ↦ ap (λ (b : Bool). is_left R s p w && b) (mirror x v p w lot low l h)
        | no h ↦ rw (sym (f p l w) ∙ bit_high (get_or words p 0) w (omega arith))
      ]

-- where no lot is placed the forward words are the domains
pub forward_start : (R : Rules) (s : List ℕ) → Empty R.lots 16 s → Forward R s R.domain
unfolding is_left in_domain
forward_start R s h p l v = sym (rw (suits_make R whole s p v (λ q m o. suits_free R s p v q (h q m)), and-true))

-- some slot passes where the word of those that do is not 0
any_word : (f : ℕ → Bool) (y : ℕ) → y < 2 ^ 16 → ((v : ℕ) → bit_of y v ≡ f v) → any f 16 ≡ not (eqb y 0)
unfolding any inside
any_word f y h g = ap not (same_truth (every (λ v. not (f v)) 16) (eqb y 0) empty none)
  where
    empty : every (λ v. not (f v)) 16 ≡ true → eqb y 0 ≡ true
    empty e =
        let i = every_true (λ v. imp (bit_of y v) (bit_of 0 v)) 16 (λ v l. imp_in (bit_of y v) (bit_of 0 v) (λ b. absurd (not_both (sym (g v) ∙ b) (not-true (f v) (every_at (λ w. not (f w)) 16 v e l))))) in
        eq-eqb y 0 (sym (eqb-true (bit_and y 0) y (inside_and y 0 h ∙ i)) ∙ and_zero_r y)

    none : eqb y 0 ≡ true → every (λ v. not (f v)) 16 ≡ true
    none e = every_true (λ v. not (f v)) 16 (λ v l. ap not (sym (g v) ∙ ap (λ (z : ℕ). bit_of z v) (eqb-true y 0 e) ∙ bit_zero v))

-- a word that is not 0 has a slot
pub word_some : (y : ℕ) → y < 2 ^ 16 → (y ≡ 0 → ⊥) → (v : ℕ) × (bit_of y v ≡ true)
unfolding any
word_some y h d =
    let m = every_miss (λ v. not (bit_of y v)) 16 (not-true (every (λ v. not (bit_of y v)) 16) (any_word (bit_of y) y h (λ v. refl) ∙ ap not (ne_eqb y 0 d))) in
    (m.at, not-false (bit_of y m.at) m.fails)

-- a lot that is not placed lives where its forward word is not 0
pub lives_word : (R : Rules) (s words : List ℕ) → Forward R s words → (p : ℕ) → p < R.lots → get_or words p 0 < 2 ^ 16 → 16 ≤ get_or s p 0 → lives R s p ≡ not (eqb (get_or words p 0) 0)
lives_word R s words f p l h g = lives_free R s p g ∙ any_word (is_left R s p) (get_or words p 0) h (f p l)
