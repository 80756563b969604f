-- Laws of a scan: what it gives, and how a loop that tries one number after another comes to it.
-- Assumes nothing.
use mathlib.Core.Path.{◌≡◌, refl}
use mathlib.Core.Bool.{Bool, true, false, cond}
use mathlib.Core.Logic.{⊎_elim}
use Prim.Native.Nat.{ℕ, zero, suc, ◌+◌, ◌-◌, ◌≤◌, ◌<◌}
use native.Mathlib.Omega.{arith}
use native.Mathlib.Numerals.{add-one}
use native.Mathlib.Nat.{eq-or-lt_of_le}
use Rattle.lex.specs.Scan.{scan, scan_from}

-- r is the first number from `from` on, below k, that passes f, or k
pub record Picked (k : ℕ) (f : ℕ → Bool) (from r : ℕ) : Type 0 where
  pub high : r ≤ k
  pub low : r < k → from ≤ r
  pub hit : r < k → f r ≡ true
  pub miss : (j : ℕ) → from ≤ j → j < r → f j ≡ false

module _ (k : ℕ) (f : ℕ → Bool) where
  -- the number in turn fails: the scan goes on behind it
  pub scan_miss : (v : ℕ) → v < k → f v ≡ false → scan_from k f (v + 1) ≡ scan_from k f v
  unfolding scan_from scan
  scan_miss v h e = rw add-one (go (k - suc v) (k - v) (omega arith))
    where
      go : (c m : ℕ) → m ≡ suc c → scan f c (suc v) ≡ scan f m v
      go c m g = rw (g, e)

  -- the number in turn passes
  pub scan_hit : (v : ℕ) → v < k → f v ≡ true → v ≡ scan_from k f v
  unfolding scan_from scan
  scan_hit v h e = go (k - suc v) (k - v) (omega arith)
    where
      go : (c m : ℕ) → m ≡ suc c → v ≡ scan f m v
      go c m g = rw (g, e)

  -- no number is left
  pub scan_end : (v : ℕ) → k ≤ v → v ≡ scan_from k f v
  unfolding scan_from scan
  scan_end v h = go (k - v) (omega arith)
    where
      go : (m : ℕ) → m ≡ 0 → v ≡ scan f m v
      go m g = rw g

  picks : (c v : ℕ) → c + v ≡ k → Picked k f v (scan f c v)
  unfolding scan
  picks zero v e = record { high = omega arith; low = λ h. omega arith; hit = λ h. absurd (omega arith); miss = λ j l m. absurd (omega arith) }
  picks (suc c) v e = go (f v) refl (picks c (suc v) (omega arith))
    where
      here : (j : ℕ) → f v ≡ false → v ≤ j → ((i : ℕ) → suc v ≤ i → i < scan f c (suc v) → f i ≡ false) → j < scan f c (suc v) → f j ≡ false
      here j g l p m = ⊎_elim (λ (q : v ≡ j). rw (← q) g) (λ (q : v < j). p j q m) (eq-or-lt_of_le l)

      go : (t : Bool) → f v ≡ t → Picked k f (suc v) (scan f c (suc v)) → Picked k f v (cond t v (scan f c (suc v)))
      go true g p = record { high = omega arith; low = λ h. omega arith; hit = λ h. g; miss = λ j l m. absurd (omega arith) }
      go false g p = record { high = p.high; low = λ h. let a = p.low h in omega arith; hit = p.hit; miss = λ j l m. here j g l p.miss m }

  -- what a scan gives
  pub scan_picked : (v : ℕ) → v ≤ k → Picked k f v (scan_from k f v)
  unfolding scan_from
  scan_picked v h = picks (k - v) v (omega arith)

-- two tests that agree give the same

scan_same : (f g : ℕ → Bool) (c v : ℕ) → ((j : ℕ) → v ≤ j → j < v + c → f j ≡ g j) → scan f c v ≡ scan g c v
unfolding scan
scan_same f g zero v h = refl
scan_same f g (suc c) v h = rw (h v (omega arith) (omega arith), scan_same f g c (suc v) (λ j l m. h j (omega arith) (omega arith)))

pub scan_cong : (k : ℕ) (f g : ℕ → Bool) (v : ℕ) → ((j : ℕ) → j < k → f j ≡ g j) → scan_from k f v ≡ scan_from k g v
unfolding scan_from
scan_cong k f g v h = scan_same f g (k - v) v (λ j l m. h j (omega arith))
