-- The repair table as a list: every row has a slot for each lot, and where the rows stand one behind the other.
-- Assumes nothing.
use mathlib.Core.Path.{◌≡◌, refl, sym, ◌∙◌, ap}
use mathlib.Core.Bool.{Bool, true, false, cond}
use mathlib.Core.List.{List, [], ◌∷◌, ◌++◌, flat_map}
use mathlib.Core.Option.{Option, none, some}
use Prim.Native.Nat.{ℕ, zero, suc, ◌+◌, ◌*◌, ◌≤◌, ◌<◌}
use native.Mathlib.Omega.{arith}
use native.Mathlib.Nat.{suc-mul, mul-le-mul, mul-le-mul_right, zero-mul}
use lib.ListN.{length, get_or, take, drop, length-append}
use lib.Seq.{take_at, drop-append-add}
use Rattle.lex.specs.First.{or_old}
use Rattle.week.specs.Tables.{Week, lots, pair_rules, refusal}
use Rattle.week.proofs.Tables.{accepted}
use Rattle.repair.specs.Break.{row_at}
use Rattle.repair.specs.Repair.{case, repair_half}
use Rattle.repair.proofs.Mends.{repair_half_lem, half_long}
use Rattle.robust.specs.Super.{is_break, repair_for, row_of}

-- Places of rows

module _ (n i rows : ℕ) (few : n ≤ 24) (more : i < rows) (small : rows ≤ 600) where
  pub from_small : i * n ≤ 14400
  from_small = mul-le-mul {n₁ = i} {m₁ = n} {n₂ = 600} {m₂ = 24} (omega arith) few

  pub to_within : i * n + n ≤ rows * n
  to_within = let m = mul-le-mul_right n more in let s = suc-mul i n in omega arith

-- every row has a slot for each lot
pub row_size : (W : Week) (s A : List ℕ) → refusal W ≡ 0 → length s ≡ lots W → length (row_of W s A) ≡ lots W
unfolding row_of repair_for
row_size W s A fine size = go (is_break W s A)
  where
    found : (o : Option (List ℕ)) → repair_half (pair_rules W) (case W.numbers W.give s A) ≡ o → length (or_old o s) ≡ lots W
    found none e = size
    found (some r) e = half_long (pair_rules W) (case W.numbers W.give s A) r e

    go : (t : Bool) → length (cond t (or_old (repair_for W s A) s) s) ≡ lots W
    go true = rw (repair_half_lem (pair_rules W) (case W.numbers W.give s A) (accepted W fine).symmetric) (found (repair_half (pair_rules W) (case W.numbers W.give s A)) refl)
    go false = size

-- row i of rows of n bytes, one behind the other
pub row_at_lem : (f : List ℕ → List ℕ) (n : ℕ) → ((A : List ℕ) → length (f A) ≡ n) → (l : List (List ℕ)) (i : ℕ) → i < length l → row_at n (flat_map f l) i ≡ f (get_or l i [])
unfolding row_at flat_map
row_at_lem f n size [] i h = absurd (omega arith)
row_at_lem f n size (A ∷ l) zero h = ap (λ (m : ℕ). take n (drop m (f A ++ flat_map f l))) (zero-mul n) ∙ take_at (f A) (flat_map f l) n (size A)
row_at_lem f n size (A ∷ l) (suc i) h =
    let e : suc i * n ≡ length (f A) + i * n = let z = size A in let m = suc-mul i n in omega arith in
    ap (take n) (ap (λ (m : ℕ). drop m (f A ++ flat_map f l)) e ∙ drop-append-add (f A) (flat_map f l) (i * n))
    ∙ row_at_lem f n size l i (omega arith)

pub rows_size : (f : List ℕ → List ℕ) (n : ℕ) → ((A : List ℕ) → length (f A) ≡ n) → (l : List (List ℕ)) → length (flat_map f l) ≡ length l * n
unfolding flat_map
rows_size f n size [] = sym (zero-mul n)
rows_size f n size (A ∷ l) =
    let m = suc-mul (length l) n in let z = size A in let r = rows_size f n size l in let e = length-append (f A) (flat_map f l) in omega arith
