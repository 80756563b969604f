-- Reasons as the code makes them: parts of an order, merged, cut down to some lots, or made of the lots that take slots from one lot. A law for each turn of a
-- loop. Assumes nothing.
use mathlib.Core.Path.{◌≡◌, refl, sym, ◌∙◌, ap}
use mathlib.Core.Bool.{Bool, true, false, ◌&&◌, not}
use mathlib.Core.List.{List}
use Prim.Native.Nat.{ℕ, zero, suc, ◌+◌, ◌-◌, ◌/◌, ◌%◌, ◌^◌, ◌≤◌, ◌<◌}
use native.Mathlib.Decide.{dec_lt, ℕ_discrete}
use native.Mathlib.Omega.{arith}
use lib.Bits.{bit_and}
use lib.Dec.{eqb}
use lib.ListN.{length, get_or, set, replicate, length-set, get_or-replicate}
use lib.Seq.{get_or-set_same, get_or-set_other}
use borrow.Author.Tests.{not-true, lt-ltb}
use Rattle.std.proofs.Common.{w16}
use Rattle.std.specs.Int.{bit_not}
use Rattle.std.proofs.lemmas.Nat.Bits.{bit_at_not}
use Rattle.lex.proofs.Every.{false_of, both, and_left, and_right, not_both}
use Rattle.week.specs.Rules.{Rules, bit_of, inside, in_domain, tie_word, together}
use Rattle.week.proofs.Standing.{domain_below}
use Rattle.week.proofs.Words.{bit_and_lem, bit_zero, bit_below, inside_at}
use Rattle.parts.specs.Part.{Extends, Empty, Merges}
use Rattle.cuts.specs.Cut.{whole}
use Rattle.cuts.specs.Hopes.{suits_on, is_left}
use Rattle.cuts.proofs.Hopes.{suits_self, suits_free, suits_with, suits_make, suits_read, left_domain, left_suits}
use Rattle.cuts.proofs.Reasons.{left_part}
use Rattle.hope.specs.Blame.{Bound, Blamed}

-- no lot is placed
blank_idle : (p : ℕ) → p < 24 → 16 ≤ get_or (replicate 24 16) p 0
blank_idle p l = rw (get_or-replicate {A = ℕ} 24 p 16 0 l) (omega arith)

pub blank : (n : ℕ) → n ≤ 24 → Empty n 16 (replicate 24 16)
blank n h p l = blank_idle p (omega arith)

-- Two parts merged

-- the k first lots are merged, and the others are those of a
pub record Merging (a b : List ℕ) (x k : ℕ) (r : List ℕ) : Type 0 where
  pub size : length r ≡ 24
  pub done : Merges k 16 a b x r
  pub rest : (p : ℕ) → k ≤ p → get_or r p 0 ≡ get_or a p 0

-- The lots that take slots from lot q

-- of the k first lots of s those in r do; `rest` has the slots outside `target` that these k lots leave to q
pub record Blaming (R : Rules) (s : List ℕ) (q target k : ℕ) (r : List ℕ) (rest : ℕ) : Type 0 where
  pub given : Bound R s q target
  pub size : length r ≡ 24
  pub part : Extends R.lots 16 r s
  pub later : (p : ℕ) → k ≤ p → p < 24 → 16 ≤ get_or r p 0
  pub outer : (v : ℕ) → is_left R r q v ≡ true → bit_of target v ≡ false → bit_of rest v ≡ true
  pub inner : (v : ℕ) → bit_of rest v ≡ true → (bit_of target v ≡ false) × (in_domain R q v ≡ true)
  pub passed : (v : ℕ) → bit_of rest v ≡ true → (p : ℕ) → p < k → (p ≡ q → ⊥) → get_or s p 0 < 16 → together R q v p (get_or s p 0) ≡ true

-- the slots of a word but those of another
digit_not : (d : ℕ) → d < 2 → eqb (1 - d) 1 ≡ not (eqb d 1)
digit_not zero l = refl
digit_not (suc zero) l = refl
digit_not (suc (suc d)) l = absurd (omega arith)

bit_outside : (y v : ℕ) → y < 65536 → v < 16 → bit_of (bit_not w16 y) v ≡ not (bit_of y v)
unfolding bit_of
bit_outside y v h l = rw (lt-ltb v 16 l, bit_at_not w16 y v h l) (digit_not (y / 2 ^ v % 2) (omega arith))

bit_but : (x y v : ℕ) → y < 65536 → bit_of (bit_and x (bit_not w16 y)) v ≡ (bit_of x v && not (bit_of y v))
bit_but x y v h =
    bit_and_lem x (bit_not w16 y) v
    ∙ elim (dec_lt v 16) [
      | yes l ↦ ap (λ (b : Bool). bit_of x v && b) (bit_outside y v h l)
      | no l ↦ let z : bit_of x v ≡ false = false_of (bit_of x v) (λ e. omega (arith, bit_below x v e)) in rw z refl
    ]

pub blaming_start : (R : Rules) (s : List ℕ) (q target own : ℕ) → Bound R s q target → own ≡ get_or R.domain q 0 → target < 65536 → Blaming R s q target 0 (replicate 24 16) (bit_and own (bit_not w16 target))
unfolding in_domain
blaming_start R s q target own b e l = record {
  given = b;
  size = refl;
  part = λ p l h. absurd (let a = blank R.lots b.few p l in omega arith);
  later = λ p h l. blank_idle p l;
  outer = λ v f g. bit_but own target v l ∙ both (ap (λ (x : ℕ). bit_of x v) e ∙ left_domain R (replicate 24 16) q v f) (ap not g);
  inner = λ v f. let h = sym (bit_but own target v l) ∙ f in (not-true (bit_of target v) (and_right (bit_of own v) (not (bit_of target v)) h), ap (λ (x : ℕ). bit_of x v) (sym e) ∙ and_left (bit_of own v) (not (bit_of target v)) h);
  passed = λ v f p l. absurd (omega arith);
}

module _ {R : Rules} {s : List ℕ} {q target k : ℕ} {r : List ℕ} {rest : ℕ} (c : Blaming R s q target k r rest) where
  bound_by : ((v : ℕ) → is_left R r q v ≡ true → bit_of target v ≡ false → ⊥) → Blamed R s q target r
  bound_by h = record { size = c.size; part = c.part; bound = λ v e. go v e (bit_of target v) refl }
    where
      go : (v : ℕ) → is_left R r q v ≡ true → (t : Bool) → bit_of target v ≡ t → bit_of target v ≡ true
      go v e true f = f
      go v e false f = absurd (h v e f)

  -- no slot is left outside the target
  pub blamed_early : rest ≡ 0 → Blamed R s q target r
  blamed_early z = bound_by (λ v e f. not_both (rw z at (c.outer v e f)) (bit_zero v))

  -- every lot is looked at
  pub blamed_end : R.lots ≤ k → Blamed R s q target r
  unfolding is_left
  blamed_end h = bound_by (λ v e f. let o = c.outer v e f in not_both (c.given.bound v (both (c.inner v o).1 (suits v o))) f)
    where
      suits : (v : ℕ) → bit_of rest v ≡ true → suits_on R whole s q v ≡ true
      suits v o = suits_make R whole s q v (λ p l t. elim (ℕ_discrete q p) [
        | yes z ↦ suits_self R s q v p z
        | no z ↦ elim (dec_lt (get_or s p 0) 16) [
          | yes g ↦ suits_with R s q v p z g ∙ c.passed v o p (omega arith) (λ y. z (sym y)) g
          | no g ↦ suits_free R s q v p (omega arith)
        ]
      ])

  -- lot k takes no slot of the rest
  blaming_past : ((v : ℕ) → bit_of rest v ≡ true → (k ≡ q → ⊥) → get_or s k 0 < 16 → together R q v k (get_or s k 0) ≡ true) → Blaming R s q target (k + 1) r rest
  blaming_past h = record {
    given = c.given;
    size = c.size;
    part = c.part;
    later = λ p g l. c.later p (omega arith) l;
    outer = c.outer;
    inner = c.inner;
    passed = λ v f p l d g. elim (dec_lt p k) [
      | yes i ↦ c.passed v f p i d g
      | no i ↦ let e : p ≡ k = omega arith in rw e (h v f (λ z. d (e ∙ z)) (rw e at g))
    ];
  }

  module _ (slot tie : ℕ) (is : slot ≡ get_or s k 0) (word : tie ≡ tie_word R.lots R.ties k slot q) (low : slot < 16) (lot : k < R.lots) where
    tie_beside : (v : ℕ) → bit_of tie v ≡ together R k slot q v
    unfolding together
    tie_beside v = ap (λ (y : ℕ). bit_of y v) word

    beside : (v : ℕ) → bit_of tie v ≡ true → together R q v k (get_or s k 0) ≡ true
    beside v e = rw (← is) (c.given.mirror q v k slot c.given.lot (bit_below tie v e) lot low ∙ sym (tie_beside v) ∙ e)

    pub blaming_within : inside rest tie ≡ true → Blaming R s q target (k + 1) r rest
    blaming_within e = blaming_past (λ v f d g. beside v (inside_at rest tie v e f))

    -- it takes one, and is to blame
    pub blaming_take : (k ≡ q → ⊥) → Blaming R s q target (k + 1) (set r k slot) (bit_and rest tie)
    blaming_take d = record {
      given = c.given;
      size = rw length-set c.size;
      part = λ p l h. elim (ℕ_discrete p k) [
        | yes e ↦ rw e (sym (here ∙ is))
        | no e ↦ let o = get_or-set_other r k p slot 0 e in c.part p l (rw o at h) ∙ sym o
      ];
      later = λ p h l. rw (get_or-set_other r k p slot 0 (λ e. omega arith)) (c.later p (omega arith) l);
      outer = λ v e f. bit_and_lem rest tie v ∙ both (c.outer v (left_part R r (set r k slot) more q v e) f) (tie_beside v ∙ taken v e);
      inner = λ v e. c.inner v (and_left (bit_of rest v) (bit_of tie v) (sym (bit_and_lem rest tie v) ∙ e));
      passed = λ v e p l i g.
          let b = sym (bit_and_lem rest tie v) ∙ e in
          elim (dec_lt p k) [
            | yes j ↦ c.passed v (and_left (bit_of rest v) (bit_of tie v) b) p j i g
            | no j ↦ let z : p ≡ k = omega arith in rw z (beside v (and_right (bit_of rest v) (bit_of tie v) b))
          ];
    }
      where
        in_r : k < length r
        in_r = omega (arith, c.size, c.given.few)

        here : get_or (set r k slot) k 0 ≡ slot
        here = get_or-set_same r k slot 0 in_r

        more : Extends R.lots 16 r (set r k slot)
        more p l h = elim (ℕ_discrete p k) [
          | yes e ↦ absurd (let a = c.later p (omega arith) (omega (arith, c.given.few)) in omega arith)
          | no e ↦ get_or-set_other r k p slot 0 e
        ]

        taken : (v : ℕ) → is_left R (set r k slot) q v ≡ true → together R k slot q v ≡ true
        taken v e =
            let t = suits_read R whole (set r k slot) q v (left_suits R (set r k slot) q v e) k lot refl (λ z. d (sym z)) (rw here low) in
            sym (c.given.mirror q v k slot c.given.lot (domain_below R q v (left_domain R (set r k slot) q v e)) lot low) ∙ rw here at t
