-- Words made one after the other, and what the lots that stand leave of them: of the domains, the forward words. Assumes nothing.
use mathlib.Core.Path.{◌≡◌, sym, ◌∙◌, ap, ap₂}
use mathlib.Core.Bool.{Bool, true, false, ◌&&◌, cond, and-true, and_assoc}
use mathlib.Core.List.{List}
use Prim.Native.Nat.{ℕ, zero, suc, ◌+◌, ◌^◌, ◌≤◌, ◌<◌}
use native.Mathlib.Decide.{dec_lt, ℕ_discrete}
use native.Mathlib.Numerals.{add-one}
use native.Mathlib.Omega.{arith}
use lib.ListN.{length, get_or, set, length-set}
use lib.Seq.{get_or-set_same, get_or-set_other}
use borrow.Author.Tests.{lt-ltb, le-ltb, eq-eqb, ne_eqb}
use Rattle.lex.specs.Every.{every}
use Rattle.week.specs.Rules.{Rules, bit_of, in_domain, tie_word}
use Rattle.week.proofs.Standing.{Symmetric}
use Rattle.week.proofs.Words.{bit_and_lem}
use Rattle.parts.specs.Part.{placed}
use Rattle.cuts.specs.Cut.{whole}
use Rattle.cuts.specs.Hopes.{suits, suits_on, is_left, Forward}
use Rattle.cuts.proofs.Hopes.{suits_self, suits_free, suits_with}
use Rattle.cuts.proofs.Words.{bit_high, tie_bit}
use Rattle.room.specs.Words.{met_in, met_word, met_by, Made}

-- Words made one after the other

pub made_next : (f : ℕ → ℕ) (words : List ℕ) (p w : ℕ) → p < 24 → Made p f words → w ≡ f p → w < 2 ^ 16 → Made (p + 1) f (set words p w)
made_next f words p w h m e g = record {
  size = rw length-set m.size;
  each = λ q l. elim (ℕ_discrete q p) [
    | yes z ↦ rw z (get_or-set_same words p w 0 inside ∙ e)
    | no z ↦ get_or-set_other words p q w 0 z ∙ m.each q (omega arith)
  ];
  narrow = λ q l. elim (ℕ_discrete q p) [
    | yes z ↦ rw (z, get_or-set_same words p w 0 inside) g
    | no z ↦ rw (get_or-set_other words p q w 0 z) (m.narrow q (omega arith))
  ];
}
  where
    inside : p < length words
    inside = omega (arith, m.size)

pub made_same : (n : ℕ) (f g : ℕ → ℕ) (words : List ℕ) → ((p : ℕ) → p < n → f p ≡ g p) → Made n f words → Made n g words
made_same n f g words h m = record { size = m.size; each = λ p l. m.each p l ∙ h p l; narrow = m.narrow }

-- The words of n lots, once the k first lots of an order stand

module _ (n : ℕ) (ties words s : List ℕ) where
  pub met_start : (met : List ℕ) → Made n (λ p. get_or words p 0) met → Made n (met_by n ties words s 0) met
  unfolding met_by
  met_start met m = m

  -- lot k is not placed
  pub met_skip : (k : ℕ) (met : List ℕ) → placed 16 s k ≡ false → Made n (met_by n ties words s k) met → Made n (met_by n ties words s (k + 1)) met
  unfolding met_by
  met_skip k met e m = made_same n (met_by n ties words s k) (met_by n ties words s (k + 1)) met (λ p l. rw (add-one, e)) m

  -- it is, in slot v
  pub met_place : (k v : ℕ) (met new : List ℕ) → placed 16 s k ≡ true → v ≡ get_or s k 0 → Made n (met_by n ties words s k) met → Made n (met_word n ties met k v) new → Made n (met_by n ties words s (k + 1)) new
  unfolding met_by met_word
  met_place k v met new e f m a = made_same n (met_word n ties met k v) (met_by n ties words s (k + 1)) new (λ p l. rw (add-one, e, m.each p l, f)) a

-- What is left of a word

module _ (R : Rules) (mirror : Symmetric R) (words s : List ℕ) (p : ℕ) (l : p < R.lots) (v : ℕ) where
  -- lot k takes its slots from word w
  met_one : (w : ℕ) (b e : Bool) (k : ℕ) → v < 16 → k < R.lots → bit_of w v ≡ (b && e) → bit_of (cond (placed 16 s k) (met_in R.lots R.ties w k (get_or s k 0) p) w) v ≡ (b && (e && suits R s p v k))
  unfolding met_in
  met_one w b e k h g i = elim (dec_lt (get_or s k 0) 16) [
    | yes a ↦ elim (ℕ_discrete p k) [
      | yes z ↦ rw (lt-ltb (get_or s k 0) 16 a, eq-eqb p k z, suits_self R s p v k z, and-true) i
      | no z ↦
          rw (lt-ltb (get_or s k 0) 16 a, ne_eqb p k z)
          (bit_and_lem w (tie_word R.lots R.ties k (get_or s k 0) p) v
          ∙ ap₂ ◌&&◌ i (tie_bit R k (get_or s k 0) p v ∙ mirror k (get_or s k 0) p v g a l h ∙ sym (suits_with R s p v k z a))
          ∙ and_assoc b e (suits R s p v k))
    ]
    | no a ↦ rw (le-ltb (get_or s k 0) 16 (omega arith), suits_free R s p v k (omega arith), and-true) i
  ]

  met_slots : (k : ℕ) → v < 16 → k ≤ R.lots → bit_of (met_by R.lots R.ties words s k p) v ≡ (bit_of (get_or words p 0) v && every (suits R s p v) k)
  unfolding met_by every
  met_slots zero h g = sym (and-true (bit_of (get_or words p 0) v))
  met_slots (suc k) h g = met_one (met_by R.lots R.ties words s k p) (bit_of (get_or words p 0) v) (every (suits R s p v) k) k h (omega arith) (met_slots k h (omega arith))

  -- those that clash with no lot that stands
  pub met_bits : bit_of (met_by R.lots R.ties words s R.lots p) v ≡ (bit_of (get_or words p 0) v && suits_on R whole s p v)
  unfolding suits_on
  met_bits = elim (dec_lt v 16) [
    | yes h ↦ met_slots R.lots h (omega arith)
    | no h ↦ bit_high (met_by R.lots R.ties words s R.lots p) v (omega arith) ∙ rw (bit_high (get_or words p 0) v (omega arith))
  ]

-- on a symmetric tie table the words that are made of the domains are the forward words
pub words_forward : (R : Rules) (s words : List ℕ) → Symmetric R → Made R.lots (met_by R.lots R.ties R.domain s R.lots) words → Forward R s words
unfolding is_left in_domain
words_forward R s words mirror m p l v = ap (λ (w : ℕ). bit_of w v) (m.each p l) ∙ met_bits R mirror R.domain s p l v
