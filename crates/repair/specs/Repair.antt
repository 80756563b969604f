-- Repairs of an order for lost lots, and the one that is chosen.
-- As everywhere, p is a lot, w the slot in which it stood and v the slot to which it goes. Assumes nothing.
use Rattle.std.specs.Prelude.{Bool, ◌&&◌, ◌||◌, not, cond, List, ℕ, ◌+◌, eqb, ltb, leb, length, get_or}
use Rattle.std.proofs.Math.Option.{Option}
use Rattle.lex.specs.Every.{imp, every, one_if, count, some_of}
use Rattle.lex.specs.First.{first, always}
use Rattle.week.specs.declared.Numbers.{Numbers}
use Rattle.week.specs.Rules.{Rules, bit_of, together, keeps, fits, keeps_half}

-- what a repair is asked for: the numbers, the give words, the order that stands and the lost lots
pub record Case : Type 0 where
  pub numbers : Numbers
  pub give : List ℕ
  pub stands : List ℕ
  pub lost : List ℕ

abbrev pub case : Numbers → List ℕ → List ℕ → List ℕ → Case
case N g s A = record { numbers = N; give = g; stands = s; lost = A }

unfoldable pub is_lost : List ℕ → ℕ → Bool
is_lost A p = some_of (eqb p) A

-- a lost lot stands in another slot; under alternative rule 1 the old slot w and the new v satisfy w + k < v
unfoldable pub replaces : Numbers → ℕ → ℕ → Bool
replaces N w v = not (eqb w v) && imp (eqb N.alternative 1) (ltb (w + N.gap) v)

-- a lot outside the lost set that moves stood in a slot of its give word g
unfoldable pub yields : ℕ → ℕ → ℕ → Bool
yields g w v = eqb w v || bit_of g w

-- under helper rule 1 no lot, lost or not, moves to a smaller slot
unfoldable pub helps : Numbers → ℕ → ℕ → Bool
helps N w v = imp (eqb N.helper 1) (leb w v)

-- lot p may go from where it stands to slot v, whatever the other lots do
unfoldable pub may_go : Case → ℕ → ℕ → Bool
may_go C p v =
    helps C.numbers (get_or C.stands p 0) v
    && cond (is_lost C.lost p) (replaces C.numbers (get_or C.stands p 0) v) (yields (get_or C.give p 0) (get_or C.stands p 0) v)

-- lot p is outside the lost set, and slot v is not where it stands
unfoldable pub moves : Case → ℕ → ℕ → Bool
moves C p v = not (is_lost C.lost p) && not (eqb (get_or C.stands p 0) v)

unfoldable pub goes_at : Case → List ℕ → ℕ → Bool
goes_at C r p = may_go C p (get_or r p 0)

unfoldable pub moves_at : Case → List ℕ → ℕ → Bool
moves_at C r p = moves C p (get_or r p 0)

-- r, or the beginning of an order, is a repair: it keeps the rules, each lot may go where it goes, and at most b lots move outside the lost set
unfoldable pub mends : Rules → Case → List ℕ → Bool
mends R C r = keeps R r && (every (goes_at C r) (length r) && leb (count (moves_at C r) (length r)) C.numbers.b)

unfoldable pub is_repair : Rules → Case → List ℕ → Bool
is_repair R C r = eqb (length r) R.lots && mends R C r

-- the repair that is chosen: the first
unfoldable pub repair_of : Rules → Case → Option (List ℕ)
repair_of R C = first (mends R C) always 16 R.lots

-- What the code searches by, lot after lot, each pair of lots once: it finds the same repair on accepted tables
-- (proofs/Mends.antt, `repair_half_lem`)

unfoldable pub mends_half : Rules → Case → List ℕ → Bool
mends_half R C r = keeps_half R r && (every (goes_at C r) (length r) && leb (count (moves_at C r) (length r)) C.numbers.b)

-- slot v for lot p, behind the slots that r gives the lots before p
unfoldable pub mends_at : Rules → Case → List ℕ → ℕ → ℕ → Bool
mends_at R C r p v = fits R r p v && (may_go C p v && leb (count (moves_at C r) p + one_if (moves C p v)) C.numbers.b)

unfoldable pub repair_half : Rules → Case → Option (List ℕ)
repair_half R C = first (mends_half R C) always 16 R.lots

-- What the code passes over: where more lots must move than may, no repair begins so (proofs/Ahead.antt, `leads_space`)

-- lot q may stay where it stands, with lot u in slot x: u stands there as before, or the two may stand together
unfoldable pub stays : Rules → Case → ℕ → ℕ → ℕ → Bool
stays R C q u x = eqb (get_or C.stands u 0) x || together R q (get_or C.stands q 0) u x

unfoldable pub stays_at : Rules → Case → List ℕ → ℕ → ℕ → Bool
stays_at R C r q u = stays R C q u (get_or r u 0)

-- lot q, later than p and not lost, cannot stay: the lots before p take the slots of r, and p takes v
unfoldable pub must_move : Rules → Case → List ℕ → ℕ → ℕ → ℕ → Bool
must_move R C r p v q = ltb p q && (not (is_lost C.lost q) && not (stays R C q p v && every (stays_at R C r q) p))

-- if lot q must move, it stands in a slot of its give word
unfoldable pub may_move : Rules → Case → List ℕ → ℕ → ℕ → ℕ → Bool
may_move R C r p v q = imp (must_move R C r p v q) (bit_of (get_or C.give q 0) (get_or C.stands q 0))

-- the lots that must move may, and with those that do they are at most b
unfoldable pub few_ahead : Rules → Case → List ℕ → ℕ → ℕ → Bool
few_ahead R C r p v =
    every (may_move R C r p v) R.lots
    && leb (count (moves_at C r) p + one_if (moves C p v) + count (must_move R C r p v) R.lots) C.numbers.b

-- asked only where lot p leaves its place
unfoldable pub ahead : Rules → Case → List ℕ → ℕ → ℕ → Bool
ahead R C r p v = eqb (get_or C.stands p 0) v || few_ahead R C r p v

unfoldable pub ahead_at : Rules → Case → List ℕ → ℕ → Bool
ahead_at R C r p = ahead R C r p (get_or r p 0)

-- the beginning r of an order may lead to a repair
unfoldable pub leads : Rules → Case → List ℕ → Bool
leads R C r = mends_half R C r && every (ahead_at R C r) (length r)

-- slot v for lot p, behind the slots that r gives the lots before p
unfoldable pub leads_at : Rules → Case → List ℕ → ℕ → ℕ → Bool
leads_at R C r p v = mends_at R C r p v && ahead R C r p v
