-- Partial repairs by forced moves. m gives the lots that have been decided their new slots (16 or more: not decided); every other lot stays where it stands
-- as long as it clashes with no decided lot. Assumes nothing.
use Rattle.std.specs.Prelude.{◌≡◌, Bool, true, false, ◌&&◌, ◌||◌, not, cond, List, ℕ, ◌≤◌, ◌<◌, leb, get_or}
use Rattle.lex.specs.Every.{imp, every, count}
use Rattle.week.specs.Rules.{Rules, bit_of, in_domain}
use Rattle.repair.specs.Repair.{Case, is_lost, may_go, moves}
use Rattle.parts.specs.Part.{placed, unplaced}
use Rattle.cuts.specs.Hopes.{suits_on}

-- lot p may move at all: it is lost, or stands in a slot of its give word
unfoldable pub may_leave : Case → ℕ → Bool
may_leave C p = is_lost C.lost p || bit_of (get_or C.give p 0) (get_or C.stands p 0)

module _ (R : Rules) (C : Case) (on : ℕ → Bool) (m : List ℕ) where
  -- lot p clashes with no decided lot where it stands
  unfoldable pub calm : ℕ → Bool
  calm p = suits_on R on m p (get_or C.stands p 0)

  -- lot p, decided for slot v, may go there
  unfoldable pub lands : ℕ → ℕ → Bool
  lands p v = in_domain R p v && (suits_on R on m p v && may_go C p v)

  -- lot p may go where it is decided to go; one that is not decided may stay, or move at all
  unfoldable pub sound : ℕ → Bool
  sound p = cond (placed 16 m p) (lands p (get_or m p 0)) (calm p || may_leave C p)

  -- lot p is outside the lost set and moves, or will have to
  unfoldable pub uses : ℕ → Bool
  uses p = cond (placed 16 m p) (moves C p (get_or m p 0)) (not (is_lost C.lost p) && not (calm p))

  -- the test of what is decided
  unfoldable pub may : Bool
  may = every (λ p. imp (on p) (sound p)) R.lots && leb (count (λ p. on p && uses p) R.lots) C.numbers.b

  -- lot p is not decided, and is lost or has to move
  unfoldable pub has_to : ℕ → Bool
  has_to p = unplaced 16 m p && (is_lost C.lost p || not (calm p))

  -- no lot is left that has to move
  abbrev pub Settled : Type 0
  Settled = (p : ℕ) → p < R.lots → on p ≡ true → has_to p ≡ false

  -- p is a lot that has to move, any one; the number of lots where none is left
  pub record Next (p : ℕ) : Type 0 where
    pub high : p ≤ R.lots
    pub idle : p < R.lots → 16 ≤ get_or m p 0
    pub settled : p ≡ R.lots → Settled
