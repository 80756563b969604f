-- Laws of repairs: the parts of `mends`, that its beginnings mend too, and what the repair chosen is.
-- Assumes nothing.
use mathlib.Core.Path.{◌≡◌, refl, sym, ◌∙◌, ap, ap₂}
use mathlib.Core.Bool.{Bool, true, false, ◌&&◌, ◌||◌, cond, true≢false, or-false, or_self, and-false}
use mathlib.Core.List.{List, [], ◌∷◌, ◌++◌}
use mathlib.Core.Option.{Option, none, some}
use Prim.Native.Nat.{ℕ, ◌+◌, ◌≤◌, ◌<◌}
use native.Mathlib.Omega.{arith}
use native.Mathlib.Nat.{le_refl}
use lib.Dec.{leb, eqb, leb-zero}
use lib.ListN.{get_or, length, take}
use lib.Seq.{get_or-append_seam, get_or-take, length-take-le}
use borrow.Author.Tests.{leb-true, le-leb, eqb-true}
use Rattle.lex.specs.Dictionary.{Meets}
use Rattle.lex.specs.Every.{every, count, one_if, some_of}
use Rattle.lex.specs.First.{Passes, always, is_found, or_old}
use Rattle.lex.specs.Lists.{padded}
use Rattle.lex.proofs.Dictionary.{under_all}
use Rattle.lex.proofs.Every.{both, and_left, and_right, every_at, count_cong, Snoc, Closed, every_snoc, count_snoc, snoc_closed, snoc_and}
use Rattle.lex.proofs.First.{first_meets, first_is, first_same, first_some}
use Rattle.lex.proofs.Lists.{padded_wide, padded_take}
use Rattle.week.specs.Rules.{Rules, keeps, fits, lot_fits, keeps_half}
use Rattle.week.proofs.Standing.{keeps_closed, keeps_below, fits_cong, half_snoc as keeps-snoc, half_below, Symmetric, keeps_half_lem}
use Rattle.repair.specs.declared.Lost.{Lost}
use Rattle.pairs.specs.Pairs.{pair}
use Rattle.repair.specs.Break.{single}
use Rattle.repair.specs.Found.{lots_of}
use Rattle.repair.specs.Repair.{Case, is_lost, replaces, yields, helps, may_go, moves, goes_at, moves_at, mends, repair_of, mends_half, mends_at, repair_half}

module _ (R : Rules) (C : Case) where
  -- the parts of a repair

  pub record Mends (r : List ℕ) : Type 0 where
    pub keep : keeps R r ≡ true
    pub go : every (goes_at C r) (length r) ≡ true
    pub few : count (moves_at C r) (length r) ≤ C.numbers.b

  pub mends_read : (r : List ℕ) → mends R C r ≡ true → Mends r
  unfolding mends
  mends_read r e =
      let f = and_right (keeps R r) (every (goes_at C r) (length r) && leb (count (moves_at C r) (length r)) C.numbers.b) e in
      record {
        keep = and_left (keeps R r) (every (goes_at C r) (length r) && leb (count (moves_at C r) (length r)) C.numbers.b) e;
        go = and_left (every (goes_at C r) (length r)) (leb (count (moves_at C r) (length r)) C.numbers.b) f;
        few = leb-true (count (moves_at C r) (length r)) C.numbers.b (and_right (every (goes_at C r) (length r)) (leb (count (moves_at C r) (length r)) C.numbers.b) f);
      }

  pub mends_make : (r : List ℕ) → Mends r → mends R C r ≡ true
  unfolding mends
  mends_make r m = both m.keep (both m.go (le-leb (count (moves_at C r) (length r)) C.numbers.b m.few))

  -- the beginnings of a repair mend too

  goes_closed : Closed (λ r. every (goes_at C r) (length r))
  unfolding goes_at
  goes_closed =
      snoc_closed (λ r. every (goes_at C r) (length r)) (λ pre v. goes_at C (pre ++ v ∷ []) (length pre))
      (every_snoc (goes_at C) (λ s t p h. ap (may_go C p) (h p (le_refl p))))

  fewer : (pre : List ℕ) (v : ℕ) → count (moves_at C pre) (length pre) ≤ count (moves_at C (pre ++ v ∷ [])) (length (pre ++ v ∷ []))
  unfolding moves_at
  fewer pre v =
      let e = count_snoc (moves_at C) (λ s t p h. ap (moves C p) (h p (le_refl p))) pre v in
      omega arith

  pub mends_closed : Closed (mends R C)
  mends_closed pre v e =
      let m = mends_read (pre ++ v ∷ []) e in
      let f = fewer pre v in
      let g = m.few in
      mends_make pre (record { keep = keeps_closed R pre v m.keep; go = goes_closed pre v m.go; few = omega arith })

  -- the repair chosen

  pub repair_meets : Meets (Passes (mends R C) always 16 R.lots) (repair_of R C)
  unfolding repair_of
  repair_meets = first_meets (mends R C) always 16 mends_closed R.lots

  pub repair_passes : (r : List ℕ) → length r ≡ R.lots → mends R C r ≡ true → Passes (mends R C) always 16 R.lots r
  repair_passes r n e = record { len = n; under = under_all r (keeps_below R r (mends_read r e).keep); good = e; final = refl }

  -- one is chosen exactly if there is one
  pub repair_found : (r : List ℕ) → length r ≡ R.lots → mends R C r ≡ true → is_found (repair_of R C) ≡ true
  repair_found r n e = go (repair_of R C) repair_meets
    where
      go : (o : Option (List ℕ)) → Meets (Passes (mends R C) always 16 R.lots) o → is_found o ≡ true
      go none m = absurd (m r (repair_passes r n e))
      go (some s) m = refl

  pub found_repair : is_found (repair_of R C) ≡ true → (r : List ℕ) × (length r ≡ R.lots) × (mends R C r ≡ true)
  found_repair = go (repair_of R C) repair_meets
    where
      go : (o : Option (List ℕ)) → Meets (Passes (mends R C) always 16 R.lots) o → is_found o ≡ true → (r : List ℕ) × (length r ≡ R.lots) × (mends R C r ≡ true)
      go none m e = absurd (true≢false (sym e))
      go (some s) m e = (s, m.0.len, m.0.good)

-- The lots of a loss, as the code holds it

pub lost_either : (L : Lost) (p : ℕ) → is_lost (lots_of L) p ≡ (eqb p L.0.0 || eqb p L.1.0)
unfolding is_lost lots_of some_of single pair
lost_either L p = go (eqb L.0.0 L.1.0) refl
  where
    go : (t : Bool) → eqb L.0.0 L.1.0 ≡ t → some_of (eqb p) (cond t (L.0.0 ∷ []) (L.0.0 ∷ L.1.0 ∷ [])) ≡ (eqb p L.0.0 || eqb p L.1.0)
    go true e = rw (← eqb-true L.0.0 L.1.0 e) (or-false (eqb p L.0.0) ∙ sym (or_self (eqb p L.0.0)))
    go false e = rw or-false

-- The tests of one lot, as the code comes to them: w is the slot in which the lot stands, g its give word

module _ (C : Case) (p v : ℕ) where
  module _ (w : ℕ) (stood : w ≡ get_or C.stands p 0) where
    pub go_helper : helps C.numbers w v ≡ false → false ≡ may_go C p v
    unfolding may_go
    go_helper e = rw (← stood, e)

    pub go_lost : helps C.numbers w v ≡ true → is_lost C.lost p ≡ true → replaces C.numbers w v ≡ may_go C p v
    unfolding may_go
    go_lost e f = rw (← stood, e, f)

    pub go_other : (g : ℕ) → g ≡ get_or C.give p 0 → helps C.numbers w v ≡ true → is_lost C.lost p ≡ false → yields g w v ≡ may_go C p v
    unfolding may_go
    go_other g k e f = rw (← stood, ← k, e, f)

  pub moves_lost : is_lost C.lost p ≡ true → false ≡ moves C p v
  unfolding moves
  moves_lost e = rw e

-- a lot may go where r has it
pub goes_here : (C : Case) (r : List ℕ) (p v : ℕ) (t : Bool) → v ≡ get_or r p 0 → t ≡ may_go C p v → t ≡ goes_at C r p
unfolding goes_at
goes_here C r p v t e f = f ∙ ap (may_go C p) e

-- A whole order

module _ (R : Rules) (C : Case) (r : List ℕ) where
  -- a repair, each pair of lots looked at once
  pub mends_half_lem : Symmetric R → length r ≡ R.lots → mends R C r ≡ mends_half R C r
  unfolding mends mends_half
  mends_half_lem s n = ap (λ (b : Bool). b && (every (goes_at C r) (length r) && leb (count (moves_at C r) (length r)) C.numbers.b)) (keeps_half_lem R s r (omega arith))

-- The search of the code, lot after lot

-- at most b, where there are more of them
leb_more : (m t b : ℕ) → leb (m + t) b ≡ (leb m b && leb (m + t) b)
leb_more m t b = go (leb (m + t) b) refl
  where
    go : (x : Bool) → leb (m + t) b ≡ x → x ≡ (leb m b && x)
    go true e = let h = leb-true (m + t) b e in rw (le-leb m b (omega arith))
    go false e = sym (and-false (leb m b))

module _ (R : Rules) (C : Case) where
  abbrev goes : List ℕ → Bool
  goes r = every (goes_at C r) (length r)

  abbrev few : List ℕ → Bool
  few r = leb (count (moves_at C r) (length r)) C.numbers.b

  goes_snoc : Snoc goes (λ pre v. may_go C (length pre) v)
  unfolding goes_at
  goes_snoc pre v = every_snoc (goes_at C) (λ s t p h. ap (may_go C p) (h p (le_refl p))) pre v ∙ rw get_or-append_seam

  few_snoc : Snoc few (λ pre v. leb (count (moves_at C pre) (length pre) + one_if (moves C (length pre) v)) C.numbers.b)
  unfolding moves_at
  few_snoc pre v =
      ap (λ (m : ℕ). leb m C.numbers.b)
      (count_snoc (moves_at C) (λ s t p h. ap (moves C p) (h p (le_refl p))) pre v
      ∙ ap (λ (w : ℕ). count (moves_at C pre) (length pre) + one_if (moves C (length pre) w)) (get_or-append_seam pre v [] 0))
      ∙ leb_more (count (moves_at C pre) (length pre)) (one_if (moves C (length pre) v)) C.numbers.b

  -- the parts of what mends
  pub record Half (r : List ℕ) : Type 0 where
    pub fit : (q : ℕ) → q < length r → fits R r q (get_or r q 0) ≡ true
    pub go : (q : ℕ) → q < length r → goes_at C r q ≡ true
    pub few : count (moves_at C r) (length r) ≤ C.numbers.b

  pub half_parts : (r : List ℕ) → mends_half R C r ≡ true → Half r
  unfolding mends_half keeps_half lot_fits
  half_parts r e =
      let f = and_right (keeps_half R r) (goes r && few r) e in
      record {
        fit = λ q h. every_at (lot_fits R r) (length r) q (and_left (keeps_half R r) (goes r && few r) e) h;
        go = λ q h. every_at (goes_at C r) (length r) q (and_left (goes r) (few r) f) h;
        few = leb-true (count (moves_at C r) (length r)) C.numbers.b (and_right (goes r) (few r) f);
      }

  -- one lot more
  pub half_snoc : Snoc (mends_half R C) (λ pre v. mends_at R C pre (length pre) v)
  unfolding mends_half mends_at
  half_snoc =
      snoc_and (keeps_half R) (λ r. goes r && few r) (λ pre v. fits R pre (length pre) v)
      (λ pre v. may_go C (length pre) v && leb (count (moves_at C pre) (length pre) + one_if (moves C (length pre) v)) C.numbers.b)
      (keeps-snoc R)
      (snoc_and goes few (λ pre v. may_go C (length pre) v) (λ pre v. leb (count (moves_at C pre) (length pre) + one_if (moves C (length pre) v)) C.numbers.b) goes_snoc few_snoc)

  pub half_closed : Closed (mends_half R C)
  half_closed = snoc_closed (mends_half R C) (λ pre v. mends_at R C pre (length pre) v) half_snoc

  pub half_nil : mends_half R C [] ≡ true
  unfolding mends_half keeps_half every count
  half_nil = leb-zero C.numbers.b

  pub at_take : (s : List ℕ) (d v : ℕ) → d ≤ length s → mends_at R C (take d s) (length (take d s)) v ≡ mends_at R C s d v
  unfolding mends_at moves_at
  at_take s d v h = rw (length-take-le d s h) (ap₂ ◌&&◌ (fits_cong R (take d s) s d v (λ q l. get_or-take d s q 0 l)) (rw (count_cong (moves_at C (take d s)) (moves_at C s) d (λ q l. ap (moves C q) (get_or-take d s q 0 l)))))

  half_keeps : (r : List ℕ) → mends_half R C r ≡ true → keeps_half R r ≡ true
  unfolding mends_half
  half_keeps r e = and_left (keeps_half R r) (goes r && few r) e

  pub half_low : (r : List ℕ) → mends_half R C r ≡ true → (i : ℕ) → i < length r → get_or r i 0 < 16
  half_low r e = half_below R r (half_keeps r e)

  pub half_passes : (r : List ℕ) → length r ≡ R.lots → mends_half R C r ≡ true → Passes (mends_half R C) always 16 R.lots r
  half_passes r n e = record { len = n; under = under_all r (half_low r e); good = e; final = refl }

  pub half_is : (o : Option (List ℕ)) → Meets (Passes (mends_half R C) always 16 R.lots) o → repair_half R C ≡ o
  unfolding repair_half
  half_is o m = sym (first_is (mends_half R C) always 16 half_closed R.lots o m)

  -- on a symmetric tie table it finds the repair chosen
  pub repair_half_lem : Symmetric R → repair_of R C ≡ repair_half R C
  unfolding repair_of repair_half
  repair_half_lem s = first_same (mends R C) (mends_half R C) always 16 R.lots (mends_closed R C) half_closed (λ l n. mends_half_lem R C l s n)

-- An order found, as the code holds it

-- what the search finds has a slot for each lot
pub half_long : (R : Rules) (C : Case) (r : List ℕ) → repair_half R C ≡ some r → length r ≡ R.lots
unfolding repair_half
half_long R C r e = (first_some (mends_half R C) always 16 (half_closed R C) R.lots r e).len

-- the 24 places have room for it
pub found_wide : (n : ℕ) (o : Option (List ℕ)) → n ≤ 24 → n ≤ length (padded 24 (or_old o []))
found_wide n o h = let w = padded_wide 24 (or_old o []) in omega arith

-- and the first of them are its own
pub found_take : (n : ℕ) (o : Option (List ℕ)) (old : List ℕ) → ((r : List ℕ) → o ≡ some r → length r ≡ n) → is_found o ≡ true → take n (padded 24 (or_old o [])) ≡ or_old o old
found_take n none old long e = absurd (true≢false (sym e))
found_take n (some r) old long e = padded_take 24 r n (long r refl)
