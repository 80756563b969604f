-- A week cut down to some of its lots: the rules, repairs and breaks of the lots that are on, a test of lots. With every lot on they are the week's own
-- (proofs/Cut.antt, `.._whole`). Assumes nothing.
use Rattle.std.specs.Prelude.{Bool, true, ◌&&◌, List, ℕ, leb, length, get_or}
use Rattle.lex.specs.Every.{imp, every, count, every_of}
use Rattle.lex.specs.First.{first, Passes, always, is_found}
use Rattle.week.specs.Rules.{Rules, bit_of, slot_stands, pair_stands}
use Rattle.week.specs.Tables.{Week, pair_rules}
use Rattle.repair.specs.Repair.{Case, case, goes_at, moves_at}
use Rattle.robust.specs.Super.{row_sets}

-- every lot is on
abbrev pub whole : ℕ → Bool
whole p = true

-- lot p, if it is on, stands well with the lots that are on
unfoldable pub lot_stands_on : Rules → (ℕ → Bool) → List ℕ → ℕ → Bool
lot_stands_on R on s p = imp (on p) (every (λ q. imp (on q) (pair_stands R s p q)) (length s))

-- the lots that are on keep the rules
unfoldable pub keeps_on : Rules → (ℕ → Bool) → List ℕ → Bool
keeps_on R on s = every (λ p. imp (on p) (slot_stands R s p)) (length s) && every (lot_stands_on R on s) (length s)

-- how many of them move outside the lost set
unfoldable pub moves_on : Case → (ℕ → Bool) → List ℕ → ℕ
moves_on C on r = count (λ p. on p && moves_at C r p) (length r)

-- r is a repair as far as they go
unfoldable pub mends_on : Rules → Case → (ℕ → Bool) → List ℕ → Bool
mends_on R C on r = keeps_on R on r && (every (λ p. imp (on p) (goes_at C r p)) (length r) && leb (moves_on C on r) C.numbers.b)

-- the partial repairs, and whether there is one
abbrev pub RepairsOn : Rules → Case → (ℕ → Bool) → List ℕ → Type 0
RepairsOn R C on = Passes (mends_on R C on) always 16 R.lots

unfoldable pub mended_on : Rules → Case → (ℕ → Bool) → Bool
mended_on R C on = is_found (first (mends_on R C on) always 16 R.lots)

-- each lot of the set is on, and stands in a slot of its loss word
unfoldable pub breaks_on : List ℕ → (ℕ → Bool) → List ℕ → List ℕ → Bool
breaks_on loss on s lost = every_of (λ p. on p && bit_of (get_or loss p 0) (get_or s p 0)) lost

-- the set is no break of the lots that are on, or has a partial repair
unfoldable pub safe_on : Week → (ℕ → Bool) → List ℕ → List ℕ → Bool
safe_on W on s A = imp (breaks_on W.loss on s A) (mended_on (pair_rules W) (case W.numbers W.give s A) on)

unfoldable pub robust_on : Week → (ℕ → Bool) → List ℕ → Bool
robust_on W on s = every_of (safe_on W on s) (row_sets W)
