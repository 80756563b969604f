-- Groups of lots that may never stand in one slot. `groups` has each lot's group: the number of its lowest lot. Assumes nothing.
use Rattle.std.specs.Prelude.{◌≡◌, Bool, ◌&&◌, not, List, ℕ, ◌<◌, eqb, length, get_or}
use Rattle.lex.specs.Every.{imp, every}
use Rattle.lex.specs.Scan.{scan_from}
use Rattle.week.specs.Rules.{bit_of, tie_word}

-- lots p and q may stand together in slot v, both of them
unfoldable pub meet : ℕ → List ℕ → ℕ → ℕ → ℕ → Bool
meet n ties p q v = bit_of (tie_word n ties p v q) v

-- in none
unfoldable pub apart : ℕ → List ℕ → ℕ → ℕ → Bool
apart n ties p q = every (λ v. not (meet n ties p q v)) 16

-- lot q is not in group g, or lot p and q may never stand in one slot
unfoldable pub bears : ℕ → List ℕ → List ℕ → ℕ → ℕ → ℕ → Bool
bears n ties groups p g q = imp (eqb (get_or groups q 0) g) (apart n ties q p)

-- g is a group's number, and no lot of it before p may ever stand in one slot with p
unfoldable pub takes_in : ℕ → List ℕ → List ℕ → ℕ → ℕ → Bool
takes_in n ties groups p g = eqb (get_or groups g 0) g && every (bears n ties groups p g) p

-- each of the k first of n lots is in the first group of the lots before it that takes it in, and begins one where none does
pub record Grouped (n : ℕ) (ties : List ℕ) (k : ℕ) (groups : List ℕ) : Type 0 where
  pub size : length groups ≡ 24
  pub each : (p : ℕ) → p < k → get_or groups p 0 ≡ scan_from p (takes_in n ties groups p) 0
