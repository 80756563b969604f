-- The first order with Q, lot by lot: each lot gets the least slot with which what is fixed so far can still be finished, and nothing is taken back.
-- Lots below d are fixed in s; t is an order with Q that extends s. Assumes nothing.
use mathlib.Core.Path.{◌≡◌, refl, sym, ◌∙◌, ap, subst}
use mathlib.Core.Bool.{true, false}
use mathlib.Core.Logic.{inl, inr}
use mathlib.Core.List.{List, [], ◌∷◌, ◌++◌}
use mathlib.Core.Option.{none, some}
use Prim.Native.Nat.{ℕ, ◌+◌, ◌≤◌, ◌<◌}
use native.Mathlib.Numerals.{add-one}
use native.Mathlib.Omega.{arith}
use lib.ListN.{length, get_or, set, take, length-set, get_or-append}
use lib.Seq.{get_or-set_same, get_or-set_other, get_or-take, get_or_at, length-take-le, take-suc-set, ext_get_or}
use Rattle.lex.specs.Dictionary.{Le, Meets}
use Rattle.lex.proofs.Dictionary.{lt_or_le, le_skip}
use Rattle.parts.specs.Part.{Extends, Full, Empty, Decides, Least}
use Rattle.parts.proofs.Part.{extends_set}

-- the invariant of the loop over the lots
pub record Fixed (Q : List ℕ → Type 0) (n k : ℕ) (s t : List ℕ) (d : ℕ) : Type 0 where
  pub long : n ≤ length s
  pub most : d ≤ n
  pub idle : (p : ℕ) → d ≤ p → p < n → k ≤ get_or s p 0
  pub placed : (p : ℕ) → p < d → get_or s p 0 < k
  pub has : Q (take n t)
  pub extends : Extends n k s t
  pub first : (u : List ℕ) → Q u → Le (take d s) u

-- nothing is fixed, and some order has Q
pub fixed_start : {Q : List ℕ → Type 0} {n k : ℕ} (s t : List ℕ) → n ≤ length s → Empty n k s → Decides Q n k s true t → Fixed Q n k s t 0
fixed_start s t h f g = record { long = h; most = omega arith; idle = λ p l m. f p m; placed = λ p l. absurd (omega arith); has = g.0; extends = g.1; first = λ u q. tt }

-- or none has
pub fixed_none : (Q : List ℕ → Type 0) (n k : ℕ) (s t : List ℕ) → Empty n k s → Decides Q n k s false t → Meets Q none
fixed_none Q n k s t f g u q = g u q (λ p m h. absurd (let a = f p m in omega arith))

-- any number is at least 0
le_zero : (pre l : List ℕ) → length pre < length l → Le pre l → Le (pre ++ 0 ∷ []) l
le_zero [] [] h p = absurd (omega arith)
le_zero [] (x ∷ l) h p = elim (lt_or_le 0 x) [ inl g ↦ inl g | inr g ↦ inr (omega arith, tt) ]
le_zero (a ∷ pre) [] h p = absurd p
le_zero (a ∷ pre) (x ∷ l) h (inl b) = inl b
le_zero (a ∷ pre) (x ∷ l) h (inr b) = inr (b.0, le_zero pre l (omega arith) b.1)

module _ {Q : List ℕ → Type 0} {n k : ℕ} (len : (u : List ℕ) → Q u → length u ≡ n) (under : (u : List ℕ) → Q u → Full n k u) {s t : List ℕ} {d : ℕ} (f : Fixed Q n k s t d) where
  -- lot d gets its least slot, that of r
  module _ (r : List ℕ) (c : Least Q n k s d r) (m : d < n) where
    abbrev v : ℕ
    v = get_or r d 0

    inside : d < length s
    inside = omega (arith, f.long)

    pub fixed_slot : v < k
    fixed_slot = rw (get_or-take n r d 0 m) at (under (take n r) c.has d m)

    -- an order that begins with what is fixed extends s
    begins : (u : List ℕ) (j : ℕ) (rest : List ℕ) → u ≡ take d s ++ j ∷ rest → Extends n k s u
    begins u j rest e p h g = elim (lt_or_le p d) [
      | inl b ↦ ap (λ (z : List ℕ). get_or z p 0) e ∙ get_or-append (take d s) (j ∷ rest) 0 p (rw (length-take-le d s (omega arith)) b) ∙ get_or-take d s p 0 b
      | inr b ↦ absurd (let a = f.idle p b h in omega arith)
    ]

    first' : (u : List ℕ) → Q u → Le (take d s ++ v ∷ []) u
    first' u q =
        let a = len u q in
        let b = length-take-le d s (omega (arith, inside)) in
        le_skip (take d s) u 0 v (le_zero (take d s) u (omega arith) (f.first u q))
        (λ j rest x y e. let w = c.least u q (begins u j rest e) in let g = ap (λ (z : List ℕ). get_or z d 0) e ∙ get_or_at (take d s) j rest 0 d b in omega arith)

    placed' : (p : ℕ) → p < d + 1 → get_or (set s d v) p 0 < k
    placed' p l = elim (lt_or_le p d) [
      | inl h ↦ rw (get_or-set_other s d p v 0 (λ e. omega arith)) (f.placed p h)
      | inr h ↦ let e : p ≡ d = omega arith in rw (e, get_or-set_same s d v 0 inside) fixed_slot
    ]

    pub fixed_next : Fixed Q n k (set s d v) r (d + 1)
    fixed_next = record {
      long = rw length-set f.long;
      most = omega arith;
      idle = λ p l h. rw (get_or-set_other s d p v 0 (λ e. omega arith)) (f.idle p (omega arith) h);
      placed = placed';
      has = c.has;
      extends = λ p l h. extends_set n k s d v inside r c.extends refl p l h;
      first = λ u q. rw (add-one, take-suc-set s d v inside) (first' u q);
    }

  -- every lot is fixed
  pub fixed_found : d ≡ n → Meets Q (some (take n s))
  fixed_found e = (subst Q same f.has, λ u q. rw (← e) (f.first u q))
    where
      long_t : length (take n t) ≡ n
      long_t = len (take n t) f.has

      same : take n t ≡ take n s
      same = ext_get_or 0 (take n t) (take n s) (long_t ∙ sym (length-take-le n s f.long)) (λ p h. let l : p < n = rw long_t at h in get_or-take n t p 0 l ∙ f.extends p l (f.placed p (omega arith)) ∙ sym (get_or-take n s p 0 l))
