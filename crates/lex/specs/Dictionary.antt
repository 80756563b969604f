-- Lists of numbers in dictionary order, and what it means that a list is the first with a property.
-- Assumes nothing.
use Rattle.std.specs.Prelude.{◌≡◌, ◌⊎◌, List, [], ◌∷◌, ℕ, ◌<◌, length, get_or}
use Rattle.std.proofs.Math.Option.{Option, none, some}

-- s is before l: s has the smaller number at the lowest place where they differ
pub record Before (s l : List ℕ) : Type 0 where
  pub place : ℕ
  pub inside : place < length s
  pub same : (j : ℕ) → j < place → get_or s j 0 ≡ get_or l j 0
  pub less : get_or s place 0 < get_or l place 0

-- s, read as the beginning of a list, is not after l: s is before l, or a beginning of l
abbrev pub Le : List ℕ → List ℕ → Type 0
Le [] l = Unit {0}
Le (a ∷ s) [] = ⊥
Le (a ∷ s) (x ∷ l) = (a < x) ⊎ ((a ≡ x) × Le s l)

-- every number of the list is below k
abbrev pub Under : ℕ → List ℕ → Type 0
Under k [] = Unit {0}
Under k (x ∷ l) = (x < k) × Under k l

-- the answer is the first list with the property Q; it is none where no list has Q
abbrev pub Meets : (List ℕ → Type 0) → Option (List ℕ) → Type 0
Meets Q none = (l : List ℕ) → Q l → ⊥
Meets Q (some s) = Q s × ((l : List ℕ) → Q l → Le s l)
