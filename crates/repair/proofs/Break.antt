-- Laws of lost lots and of the sets that a repair table's rows stand for.
-- Assumes nothing.
use mathlib.Core.Path.{◌≡◌, refl, sym}
use mathlib.Core.Bool.{Bool, true, false, cond}
use mathlib.Core.List.{List, [], ◌∷◌}
use Prim.Native.Nat.{ℕ, ◌-◌, ◌≤◌, ◌<◌}
use native.Mathlib.Omega.{arith}
use lib.Dec.{eqb}
use lib.ListN.{length, get_or}
use borrow.Author.Tests.{leb-true, ltb-true, eqb-true, eq-eqb, ne_eqb}
use Rattle.lex.specs.Every.{every}
use Rattle.lex.proofs.Every.{each, every_at}
use Rattle.repair.specs.declared.Lost.{Lost}
use Rattle.pairs.specs.Pairs.{pair}
use Rattle.repair.specs.Break.{single, lot_below, lot_ascends, lost_tests, lost_ok, LostList}
use Rattle.repair.specs.Found.{lots_of}

-- The tests of a list of lost lots

module _ (n least most : ℕ) (A : List ℕ) where
  pub record LostLots : Type 0 where
    pub some : least ≤ length A
    pub few : length A ≤ most
    pub below : every (lot_below n A) (length A) ≡ true
    pub ascends : every (lot_ascends A) (length A - 1) ≡ true

  pub lost_read : lost_ok n least most A ≡ true → LostLots
  unfolding lost_ok
  lost_read e =
      let t = each (lost_tests n least most A) e in
      record { some = leb-true least (length A) t.0; few = leb-true (length A) most t.1.0; below = t.1.1.0; ascends = t.1.1.1.0 }

-- one or two lots that pass are a loss, and each is below n
module _ (n least most : ℕ) (A : List ℕ) (few : most ≤ 2) (some : 1 ≤ length A) (passed : lost_ok n least most A ≡ true) where
  pub lost_list : LostList A
  unfolding lot_ascends
  lost_list =
      let l = lost_read n least most A passed in
      record { some = some; few = omega (arith, l.few); ascends = λ h. ltb-true (get_or A 0 0) (get_or A 1 0) (every_at (lot_ascends A) (length A - 1) 0 l.ascends (omega arith)) }

  pub lost_below : (i : ℕ) → i < length A → get_or A i 0 < n
  unfolding lot_below
  lost_below i h = ltb-true (get_or A i 0) n (every_at (lot_below n A) (length A) i (lost_read n least most A passed).below h)

-- the first and the last of them are all of them
pub lots_all : (L : Lost) (A : List ℕ) → LostList A → L.0.0 ≡ get_or A 0 0 → L.1.0 ≡ get_or A (length A - 1) 0 → lots_of L ≡ A
unfolding lots_of single pair
lots_all L [] l e f = absurd (omega (arith, l.some))
lots_all L (x ∷ []) l e f = rw (e, f, eq-eqb x x refl)
lots_all L (x ∷ y ∷ []) l e f = rw (e, f, ne_eqb x y (λ h. let k = l.ascends (omega arith) in omega arith))
lots_all L (x ∷ y ∷ z ∷ A) l e f = absurd (omega (arith, l.few))

-- and a loss tells its first and its last lot

lots_read : (L : Lost) → (L.0.0 ≡ get_or (lots_of L) 0 0) × (L.1.0 ≡ get_or (lots_of L) (length (lots_of L) - 1) 0)
unfolding lots_of single pair
lots_read L = go (eqb L.0.0 L.1.0) refl
  where
    go : (t : Bool) → eqb L.0.0 L.1.0 ≡ t → (L.0.0 ≡ get_or (cond t (L.0.0 ∷ []) (L.0.0 ∷ L.1.0 ∷ [])) 0 0) × (L.1.0 ≡ get_or (cond t (L.0.0 ∷ []) (L.0.0 ∷ L.1.0 ∷ [])) (length (cond t (L.0.0 ∷ []) (L.0.0 ∷ L.1.0 ∷ [])) - 1) 0)
    go true e = (refl, sym (eqb-true L.0.0 L.1.0 e))
    go false e = (refl, refl)

module _ (L : Lost) (A : List ℕ) (are : lots_of L ≡ A) where
  pub lots_first : L.0.0 ≡ get_or A 0 0
  lots_first = rw are at (lots_read L).0

  pub lots_last : L.1.0 ≡ get_or A (length A - 1) 0
  lots_last = rw are at (lots_read L).1

pub lots_single : (L : Lost) → L.0.0 ≡ L.1.0 → lots_of L ≡ single L.0.0
unfolding lots_of
lots_single L e = rw (eq-eqb L.0.0 L.1.0 e)

pub lots_pair : (L : Lost) → (L.0.0 ≡ L.1.0 → ⊥) → lots_of L ≡ pair L.0.0 L.1.0
unfolding lots_of
lots_pair L h = rw (ne_eqb L.0.0 L.1.0 h)
