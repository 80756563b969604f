-- The first list that passes two tests, found by trying: `ok` is closed under taking a beginning and prunes, `fin` judges a whole list.
-- Assumes nothing.
use Rattle.std.specs.Prelude.{◌≡◌, Bool, true, false, List, [], ◌∷◌, ◌++◌, ℕ, zero, suc, length}
use Rattle.std.proofs.Math.Option.{Option, none, some}
use Rattle.lex.specs.Dictionary.{Under}

-- the first answer, or the second where the first is none
abbrev pub pick : Option (List ℕ) → Option (List ℕ) → Option (List ℕ)
pick none r = r
pick (some s) r = some s

-- the answer, if the test before it passed
abbrev pub gate : Bool → Option (List ℕ) → Option (List ℕ)
gate true o = o
gate false o = none

-- the first answer of f behind `pre`, trying c numbers from v on
unfoldable pub try_from : (List ℕ → Option (List ℕ)) → ℕ → ℕ → List ℕ → Option (List ℕ)
try_from f zero v pre = none
try_from f (suc c) v pre = let r = try_from f c (suc v) pre in pick (f (pre ++ v ∷ [])) r

-- the first list of r more numbers below k behind `pre`, each beginning of which passes ok, that passes fin
unfoldable pub within : (List ℕ → Bool) → (List ℕ → Bool) → ℕ → ℕ → List ℕ → Option (List ℕ)
within ok fin k zero pre = let o = gate (fin pre) (some pre) in gate (ok pre) o
within ok fin k (suc r) pre = let o = try_from (within ok fin k r) k 0 pre in gate (ok pre) o

-- the first list of n numbers below k that passes ok and fin
unfoldable pub first : (List ℕ → Bool) → (List ℕ → Bool) → ℕ → ℕ → Option (List ℕ)
first ok fin k n = within ok fin k n []

-- where no whole list is judged further
abbrev pub always : List ℕ → Bool
always l = true

-- the lists among which `first` finds the first
pub record Passes (ok fin : List ℕ → Bool) (k n : ℕ) (l : List ℕ) : Type 0 where
  pub len : length l ≡ n
  pub under : Under k l
  pub good : ok l ≡ true
  pub final : fin l ≡ true

abbrev pub is_found : Option (List ℕ) → Bool
is_found none = false
is_found (some s) = true

-- the list found, or the old one
abbrev pub or_old : Option (List ℕ) → List ℕ → List ℕ
or_old none old = old
or_old (some s) old = s
