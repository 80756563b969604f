-- Laws of the pair rules: the parts of `fits`, what one more lot adds to `keeps_half`, and that it is `keeps` on a symmetric tie table.
-- Assumes nothing.
use mathlib.Core.Path.{◌≡◌, refl, sym, ◌∙◌, ap}
use mathlib.Core.Bool.{Bool, true, false, ◌&&◌, ◌||◌, and-false}
use mathlib.Core.List.{List, [], ◌∷◌, ◌++◌}
use Prim.Native.Nat.{ℕ, ◌≤◌, ◌<◌}
use native.Mathlib.Omega.{arith}
use native.Mathlib.Decide.{dec_lt}
use native.Mathlib.Nat.{le_refl}
use lib.Dec.{eqb}
use lib.ListN.{get_or, length, take}
use lib.Seq.{get_or-append_seam, get_or-take, length-take-le}
use borrow.Author.Tests.{eqb-false, ne_eqb}
use Rattle.lex.specs.Every.{every}
use Rattle.lex.proofs.Every.{both, and_left, and_right, or_other, same_truth, every_true, every_at, every_cong, Snoc, Closed, every_snoc, snoc_closed, snoc_link, snoc_before, length_snoc}
use Rattle.week.specs.Rules.{Rules, inside, in_domain, tie_word, together, free, tied, slot_stands, pair_stands, lot_stands, keeps, beside, fits, lot_fits, keeps_half}
use Rattle.week.proofs.Words.{bit_below}

-- The parts of `fits`

module _ (R : Rules) (s : List ℕ) (p v : ℕ) where
  pub fits_in : in_domain R p v ≡ true → every (beside R s p v) p ≡ true → true ≡ fits R s p v
  unfolding fits
  fits_in e h = rw (e, h)

  pub fits_domain : fits R s p v ≡ true → in_domain R p v ≡ true
  unfolding fits
  fits_domain e = and_left (in_domain R p v) (every (beside R s p v) p) e

  pub fits_beside : fits R s p v ≡ true → (q : ℕ) → q < p → beside R s p v q ≡ true
  unfolding fits
  fits_beside e q l = every_at (beside R s p v) p q (and_right (in_domain R p v) (every (beside R s p v) p) e) l

-- only the slots of the lots before p count
pub fits_cong : (R : Rules) (s t : List ℕ) (p v : ℕ) → ((q : ℕ) → q < p → get_or s q 0 ≡ get_or t q 0) → fits R s p v ≡ fits R t p v
unfolding fits beside
fits_cong R s t p v h = ap (λ (b : Bool). in_domain R p v && b) (every_cong (beside R s p v) (beside R t p v) p (λ q l. ap (together R p v q) (h q l)))

-- a slot in a domain is below 16
pub domain_below : (R : Rules) (p v : ℕ) → in_domain R p v ≡ true → v < 16
unfolding in_domain
domain_below R p v e = bit_below (get_or R.domain p 0) v e

module _ (R : Rules) where
  -- one lot more

  pub half_snoc : Snoc (keeps_half R) (λ pre v. fits R pre (length pre) v)
  unfolding keeps_half lot_fits
  half_snoc pre v =
      every_snoc (lot_fits R) (λ s t p h. rw (h p (le_refl p)) (fits_cong R s t p (get_or t p 0) (λ q l. h q (omega arith)))) pre v
      ∙ rw (get_or-append_seam, fits_cong R (pre ++ v ∷ []) pre (length pre) v (snoc_before pre v))

  pub half_closed : Closed (keeps_half R)
  half_closed = snoc_closed (keeps_half R) (λ pre v. fits R pre (length pre) v) half_snoc

  pub half_nil : keeps_half R [] ≡ true
  unfolding keeps_half every
  half_nil = refl

  -- the test of a slot, on a list whose first d places are the order so far
  pub half_link : (s : List ℕ) (d : ℕ) → d ≤ length s → keeps_half R (take d s) ≡ true → (v : ℕ) → keeps_half R (take d s ++ v ∷ []) ≡ fits R s d v
  half_link s d h e v =
      snoc_link (keeps_half R) (λ pre v. fits R pre (length pre) v) half_snoc (take d s) e v
      ∙ rw (length-take-le d s h) (fits_cong R (take d s) s d v (λ q l. get_or-take d s q 0 l))

  -- `keeps`, lot by lot

  pub record Keeps (s : List ℕ) : Type 0 where
    pub domain : (p : ℕ) → p < length s → in_domain R p (get_or s p 0) ≡ true
    pub pairs : (p q : ℕ) → p < length s → q < length s → (p ≡ q → ⊥) → together R p (get_or s p 0) q (get_or s q 0) ≡ true

  pub keeps_read : (s : List ℕ) → keeps R s ≡ true → Keeps s
  unfolding keeps slot_stands lot_stands pair_stands
  keeps_read s e = record {
    domain = λ p l. every_at (slot_stands R s) (length s) p (and_left (every (slot_stands R s) (length s)) (every (lot_stands R s) (length s)) e) l;
    pairs = λ p q l m h.
        let stands = every_at (lot_stands R s) (length s) p (and_right (every (slot_stands R s) (length s)) (every (lot_stands R s) (length s)) e) l in
        or_other (ne_eqb p q h) (every_at (pair_stands R s p) (length s) q stands m);
  }

  pub keeps_make : (s : List ℕ) → Keeps s → keeps R s ≡ true
  unfolding keeps slot_stands lot_stands pair_stands
  keeps_make s k =
      both (every_true (slot_stands R s) (length s) k.domain)
      (every_true (lot_stands R s) (length s) (λ p l. every_true (pair_stands R s p) (length s) (λ q m. one p q l m (eqb p q) refl)))
    where
      one : (p q : ℕ) → p < length s → q < length s → (b : Bool) → eqb p q ≡ b → (b || together R p (get_or s p 0) q (get_or s q 0)) ≡ true
      one p q l m true e = refl
      one p q l m false e = k.pairs p q l m (eqb-false p q e)

  -- every slot of an order that keeps the rules is below 16
  pub keeps_below : (s : List ℕ) → keeps R s ≡ true → (p : ℕ) → p < length s → get_or s p 0 < 16
  keeps_below s e p l = domain_below R p (get_or s p 0) ((keeps_read s e).domain p l)

  pub keeps_closed : Closed (keeps R)
  keeps_closed pre v e =
      let k = keeps_read (pre ++ v ∷ []) e in
      let n = length_snoc pre v in
      keeps_make pre (record {
        domain = λ p l. rw (snoc_before pre v p l) at (k.domain p (omega arith));
        pairs = λ p q l m h. rw (snoc_before pre v p l, snoc_before pre v q m) at (k.pairs p q (omega arith) (omega arith) h);
      })

  -- the code's half of the pairs is enough where the table is symmetric

  abbrev pub Symmetric : Type 0
  Symmetric = (p v q w : ℕ) → p < R.lots → v < 16 → q < R.lots → w < 16 → together R p v q w ≡ together R q w p v

  half_fits : (s : List ℕ) → keeps_half R s ≡ true → (p : ℕ) → p < length s → fits R s p (get_or s p 0) ≡ true
  unfolding keeps_half lot_fits
  half_fits s e p l = every_at (lot_fits R s) (length s) p e l

  half_make : (s : List ℕ) → ((p : ℕ) → p < length s → fits R s p (get_or s p 0) ≡ true) → keeps_half R s ≡ true
  unfolding keeps_half lot_fits
  half_make s h = every_true (lot_fits R s) (length s) h

  -- every slot of what the code's half lets through is below 16
  pub half_below : (s : List ℕ) → keeps_half R s ≡ true → (p : ℕ) → p < length s → get_or s p 0 < 16
  half_below s e p l = domain_below R p (get_or s p 0) (fits_domain R s p (get_or s p 0) (half_fits s e p l))

  pub keeps_half_lem : Symmetric → (s : List ℕ) → length s ≤ R.lots → keeps R s ≡ keeps_half R s
  unfolding beside
  keeps_half_lem mirror s n = same_truth (keeps R s) (keeps_half R s) there back
    where
      there : keeps R s ≡ true → keeps_half R s ≡ true
      there e =
          let k = keeps_read s e in
          half_make s (λ p l. sym (fits_in R s p (get_or s p 0) (k.domain p l) (every_true (beside R s p (get_or s p 0)) p (λ q m. k.pairs p q l (omega arith) (λ h. omega arith)))))

      stands : keeps_half R s ≡ true → (p : ℕ) → p < length s → in_domain R p (get_or s p 0) ≡ true
      stands e p l = fits_domain R s p (get_or s p 0) (half_fits s e p l)

      pair : keeps_half R s ≡ true → (p q : ℕ) → p < length s → q < length s → (p ≡ q → ⊥) → together R p (get_or s p 0) q (get_or s q 0) ≡ true
      pair e p q l m h = elim (dec_lt q p) [
        | yes g ↦ fits_beside R s p (get_or s p 0) (half_fits s e p l) q g
        | no g ↦
            mirror p (get_or s p 0) q (get_or s q 0) (omega arith) (half_below s e p l) (omega arith) (half_below s e q m)
            ∙ fits_beside R s q (get_or s q 0) (half_fits s e q m) p (omega arith)
      ]

      back : keeps_half R s ≡ true → keeps R s ≡ true
      back e = keeps_make s (record { domain = stands e; pairs = pair e })

-- Tied lots

module _ (R : Rules) (p q : ℕ) where
  pub free_out : (v : ℕ) → in_domain R p v ≡ false → true ≡ free R p q v
  unfolding free
  free_out v e = rw e (sym (every_true (λ w. true) 16 (λ w l. refl)))

  pub free_in : (v : ℕ) → in_domain R p v ≡ true → inside (get_or R.domain q 0) (tie_word R.lots R.ties p v q) ≡ free R p q v
  unfolding free in_domain together inside
  free_in v e = rw e

  pub tied_none : every (free R p q) 16 ≡ true → false ≡ tied R p q
  unfolding tied
  tied_none e = rw (e, and-false)
