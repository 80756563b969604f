-- A test of every number below a bound, how many numbers pass it, and the same for the members of a list.
-- Assumes nothing.
use Rattle.std.specs.Prelude.{◌≡◌, Bool, true, false, ◌&&◌, ◌||◌, not, List, [], ◌∷◌, ℕ, zero, suc, ◌+◌}

-- where a holds, b does
abbrev pub imp : Bool → Bool → Bool
imp a b = not a || b

-- every test of a list holds
abbrev pub all : List Bool → Bool
all [] = true
all (t ∷ l) = t && all l

abbrev pub Each : List Bool → Type 0
Each [] = Unit {0}
Each (t ∷ l) = (t ≡ true) × Each l

-- every number below n passes f
unfoldable pub every : (ℕ → Bool) → ℕ → Bool
every f zero = true
every f (suc n) = every f n && f n

abbrev pub one_if : Bool → ℕ
one_if true = 1
one_if false = 0

-- how many numbers below n pass f
unfoldable pub count : (ℕ → Bool) → ℕ → ℕ
count f zero = 0
count f (suc n) = count f n + one_if (f n)

-- every member of the list passes f
unfoldable pub every_of {ℓ} : {A : Type ℓ} → (A → Bool) → List A → Bool
every_of f [] = true
every_of f (a ∷ l) = f a && every_of f l

-- some member of the list passes f
unfoldable pub some_of {ℓ} : {A : Type ℓ} → (A → Bool) → List A → Bool
some_of f [] = false
some_of f (a ∷ l) = f a || some_of f l
