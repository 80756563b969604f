-- Lists of numbers: by what stands at each place, in more places than they need, and two that are one.
-- Assumes nothing.
use Rattle.std.specs.Prelude.{Bool, true, false, ◌&&◌, List, [], ◌∷◌, ◌++◌, ℕ, zero, suc, ◌-◌, eqb, length, get_or, replicate}

-- f 0, f 1 .. f (n - 1)
unfoldable pub list_of : (ℕ → ℕ) → ℕ → List ℕ
list_of f zero = []
list_of f (suc n) = f 0 ∷ list_of (λ i. f (suc i)) n

-- the list, then 0 up to k places
unfoldable pub padded : ℕ → List ℕ → List ℕ
padded k s = s ++ replicate (k - length s) 0

-- two lists of numbers are one
unfoldable pub same : List ℕ → List ℕ → Bool
same [] [] = true
same [] (y ∷ t) = false
same (x ∷ s) [] = false
same (x ∷ s) (y ∷ t) = eqb x y && same s t

-- they have the same number at a place
unfoldable pub same_at : List ℕ → List ℕ → ℕ → Bool
same_at s t i = eqb (get_or s i 0) (get_or t i 0)
