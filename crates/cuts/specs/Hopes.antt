-- The test of a partial order in the search for super solutions: whether it may still be finished, as far as its placed lots tell.
-- As everywhere, p, q are lots and v is a slot; a slot of 16 or more means that a lot is not placed. Assumes nothing.
use Rattle.std.specs.Prelude.{◌≡◌, Bool, ◌&&◌, ◌||◌, not, cond, List, ℕ, ◌<◌, eqb, get_or}
use Rattle.lex.specs.Every.{imp, every}
use Rattle.lex.specs.First.{Passes}
use Rattle.week.specs.Rules.{Rules, bit_of, in_domain, keeps, beside}
use Rattle.week.specs.Tables.{Week, lots, pair_rules}
use Rattle.robust.specs.Super.{robust}
use Rattle.parts.specs.Part.{placed}
use Rattle.cuts.specs.Cut.{whole, robust_on}

-- lot p in slot v does not clash with lot q, if that is another lot and s places it
unfoldable pub suits : Rules → List ℕ → ℕ → ℕ → ℕ → Bool
suits R s p v q = eqb p q || imp (placed 16 s q) (beside R s p v q)

-- lot p in slot v clashes with no lot that is on and placed
unfoldable pub suits_on : Rules → (ℕ → Bool) → List ℕ → ℕ → ℕ → Bool
suits_on R on s p v = every (λ q. imp (on q) (suits R s p v q)) R.lots

-- slot v is left to lot p: it is in its domain, and p clashes there with no lot that s places
unfoldable pub is_left : Rules → List ℕ → ℕ → ℕ → Bool
is_left R s p v = in_domain R p v && suits_on R whole s p v

-- each lot's word has the slots that are left to it: its forward word
abbrev pub Forward : Rules → List ℕ → List ℕ → Type 0
Forward R s words = (p : ℕ) → p < R.lots → (v : ℕ) → bit_of (get_or words p 0) v ≡ is_left R s p v

-- some number below n passes f
unfoldable pub any : (ℕ → Bool) → ℕ → Bool
any f n = not (every (λ v. not (f v)) n)

-- the slot where s places lot p is left to it, or some slot where s does not place it
unfoldable pub lives : Rules → List ℕ → ℕ → Bool
lives R s p = cond (placed 16 s p) (is_left R s p (get_or s p 0)) (any (is_left R s p) 16)

unfoldable pub alive : Rules → List ℕ → Bool
alive R s = every (lives R s) R.lots

-- and each break of the placed lots has a partial repair
unfoldable pub hopes : Week → List ℕ → Bool
hopes W s = alive (pair_rules W) s && robust_on W (placed 16 s) s

-- the super solutions, among which `first_super` is the first
abbrev pub Supers : Week → List ℕ → Type 0
Supers W = Passes (keeps (pair_rules W)) (robust W) 16 (lots W)
