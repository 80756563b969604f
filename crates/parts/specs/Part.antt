-- Partial orders: lists of slots in which k or more means that a lot is not placed; which orders extend one, and what it means to decide whether some order
-- with a property Q does. n is the number of lots; p, q are lots, v is a slot, s a partial order and t a whole one. Assumes nothing.
use Rattle.std.specs.Prelude.{◌≡◌, Bool, true, false, not, List, ℕ, ◌≤◌, ◌<◌, ltb, length, get_or, take}

-- s places lot p
abbrev pub placed : ℕ → List ℕ → ℕ → Bool
placed k s p = ltb (get_or s p 0) k

abbrev pub unplaced : ℕ → List ℕ → ℕ → Bool
unplaced k s p = not (placed k s p)

-- t has every lot that s places in the slot where s has it
abbrev pub Extends : ℕ → ℕ → List ℕ → List ℕ → Type 0
Extends n k s t = (p : ℕ) → p < n → get_or s p 0 < k → get_or t p 0 ≡ get_or s p 0

-- t has every lot of E, a test of lots, that s places in the slot where s has it
abbrev pub Agrees : ℕ → ℕ → (ℕ → Bool) → List ℕ → List ℕ → Type 0
Agrees n k E s t = (p : ℕ) → p < n → E p ≡ true → get_or s p 0 < k → get_or t p 0 ≡ get_or s p 0

-- s places every lot
abbrev pub Full : ℕ → ℕ → List ℕ → Type 0
Full n k s = (p : ℕ) → p < n → get_or s p 0 < k

-- s places no lot
abbrev pub Empty : ℕ → ℕ → List ℕ → Type 0
Empty n k s = (p : ℕ) → p < n → k ≤ get_or s p 0

-- a partial order that some order with Q extends passes ok
pub record Needed (Q : List ℕ → Type 0) (n k : ℕ) (ok : List ℕ → Bool) : Type 0 where
  pub under : (t : List ℕ) → Q t → Full n k t
  pub needed : (s t : List ℕ) → Q t → Extends n k s t → ok s ≡ true

-- and one that places every lot and passes ok has Q
pub record Tested (Q : List ℕ → Type 0) (n k : ℕ) (ok : List ℕ → Bool) : Type 0 where
  pub must : Needed Q n k ok
  pub exact : (s : List ℕ) → n ≤ length s → Full n k s → ok s ≡ true → Q (take n s)

-- `is` says whether some order with Q extends s, and then t is one
abbrev pub Decides : (List ℕ → Type 0) → ℕ → ℕ → List ℕ → Bool → List ℕ → Type 0
Decides Q n k s true t = Q (take n t) × Extends n k s t
Decides Q n k s false t = (u : List ℕ) → Q u → Extends n k s u → ⊥

-- no order with Q that extends s has lot p in a slot below v
abbrev pub Above : (List ℕ → Type 0) → ℕ → ℕ → List ℕ → ℕ → ℕ → Type 0
Above Q n k s p v = (t : List ℕ) → Q t → Extends n k s t → v ≤ get_or t p 0

-- p is a lot that s does not place, any one; n where s places all
pub record Chosen (n k : ℕ) (s : List ℕ) (p : ℕ) : Type 0 where
  pub high : p ≤ n
  pub idle : p < n → k ≤ get_or s p 0
  pub full : p ≡ n → Full n k s

-- r has the lots that a places, and those but x that b does
pub record Merges (n k : ℕ) (a b : List ℕ) (x : ℕ) (r : List ℕ) : Type 0 where
  pub own : (p : ℕ) → p < n → get_or a p 0 < k → get_or r p 0 ≡ get_or a p 0
  pub other : (p : ℕ) → p < n → k ≤ get_or a p 0 → (p ≡ x → ⊥) → get_or r p 0 ≡ get_or b p 0
  pub self : x < n → k ≤ get_or a x 0 → k ≤ get_or r x 0

-- t has Q and extends s, and no such order has a smaller slot for lot p
pub record Least (Q : List ℕ → Type 0) (n k : ℕ) (s : List ℕ) (p : ℕ) (t : List ℕ) : Type 0 where
  pub has : Q (take n t)
  pub extends : Extends n k s t
  pub least : (u : List ℕ) → Q u → Extends n k s u → get_or t p 0 ≤ get_or u p 0
