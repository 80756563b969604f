-- Going back more than one level: a reason is a part of a partial order that no order with Q extends. How the reasons of a lot's slots make one for the lot;
-- and a reason that does not place the lot is one for all its slots. Assumes nothing.
use mathlib.Core.Path.{◌≡◌, sym, ◌∙◌, ap}
use mathlib.Core.List.{List}
use Prim.Native.Nat.{ℕ, ◌+◌, ◌≤◌, ◌<◌}
use native.Mathlib.Decide.{dec_lt, ℕ_discrete}
use native.Mathlib.Omega.{arith}
use lib.ListN.{length, get_or, set}
use lib.Seq.{get_or-set_same, get_or-set_other}
use Rattle.parts.specs.Part.{Extends, Above, Merges}

pub extends_trans : (n k : ℕ) (r s t : List ℕ) → Extends n k r s → Extends n k s t → Extends n k r t
extends_trans n k r s t a b p l h = b p l (rw (a p l h) h) ∙ a p l h

-- t is a part of s with lot x in slot v that does not place x: it is a part of s
pub extends_apart : (n k : ℕ) (s t : List ℕ) (x v : ℕ) → k ≤ get_or t x 0 → Extends n k t (set s x v) → Extends n k t s
extends_apart n k s t x v out e p l h = elim (ℕ_discrete p x) [
  | yes z ↦ absurd (let a = ap (λ (q : ℕ). get_or t q 0) z in omega arith)
  | no z ↦ sym (get_or-set_other s x p v 0 z) ∙ e p l h
]

-- a is a part of s, which does not place lot x, b one of s with x in slot v, and r has the lots of both but x
pub record Join (n k : ℕ) (s a b : List ℕ) (x v : ℕ) (r : List ℕ) : Type 0 where
  pub inside : x < length s
  pub lot : x < n
  pub idle : k ≤ get_or s x 0
  pub part : Extends n k a s
  pub next : Extends n k b (set s x v)
  pub merges : Merges n k a b x r

module _ {n k : ℕ} {s a b : List ℕ} {x v : ℕ} {r : List ℕ} (c : Join n k s a b x v r) where
  free : k ≤ get_or a x 0
  free = elim (dec_lt (get_or a x 0) k) [
    | yes h ↦ absurd (let e = c.part x c.lot h in let i = c.idle in omega arith)
    | no h ↦ omega arith
  ]

  beside : (p : ℕ) → p < n → (p ≡ x → ⊥) → get_or b p 0 < k → get_or s p 0 ≡ get_or b p 0
  beside p l z h = sym (get_or-set_other s x p v 0 z) ∙ c.next p l h

  pub merged_part : Extends n k r s
  merged_part p l h = elim (dec_lt (get_or a p 0) k) [
    | yes g ↦ c.part p l g ∙ sym (c.merges.own p l g)
    | no g ↦ elim (ℕ_discrete p x) [
      | yes z ↦ absurd (let e = c.merges.self c.lot free in let f = ap (λ (q : ℕ). get_or r q 0) z in omega arith)
      | no z ↦ let e = c.merges.other p l (omega arith) z in beside p l z (rw e at h) ∙ sym e
    ]
  ]

  pub merged_more : Extends n k a r
  merged_more p l h = c.merges.own p l h

  -- slot v fails for b, and the slots below it for a
  pub merged_above : (Q : List ℕ → Type 0) → Above Q n k a x v → ((u : List ℕ) → Q u → Extends n k b u → ⊥) → Above Q n k r x (v + 1)
  merged_above Q f g u q e =
      let w = f u q (extends_trans n k a r u merged_more e) in
      elim (dec_lt v (get_or u x 0)) [
        | yes h ↦ omega arith
        | no h ↦ absurd (g u q (all (omega arith)))
      ]
    where
      all : get_or u x 0 ≡ v → Extends n k b u
      all i p l h = elim (ℕ_discrete p x) [
        | yes z ↦ ap (λ (y : ℕ). get_or u y 0) z ∙ i ∙ sym (get_or-set_same s x v 0 c.inside) ∙ ap (λ (y : ℕ). get_or (set s x v) y 0) (sym z) ∙ c.next p l h
        | no z ↦ elim (dec_lt (get_or a p 0) k) [
          | yes y ↦ e p l (rw (c.merges.own p l y) y) ∙ c.merges.own p l y ∙ sym (c.part p l y) ∙ beside p l z h
          | no y ↦ let o = c.merges.other p l (omega arith) z in e p l (rw o h) ∙ o
        ]
      ]
