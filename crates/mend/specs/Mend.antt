-- Moves that are decided for a loss A among the lots that s places, and what the code keeps of them: m has the decided lots' slots (16 or more: not decided),
-- and sets of lots say which are lost, which may not leave and which have to move. Assumes nothing.
use Rattle.std.specs.Prelude.{◌≡◌, Bool, true, false, ◌&&◌, not, List, ℕ, ◌<◌, length, get_or}
use Rattle.lex.specs.Every.{imp, every}
use Rattle.week.specs.Rules.{bit_of, tie_word}
use Rattle.week.specs.Tables.{Week, lots, lent, pair_rules}
use Rattle.repair.specs.Repair.{is_lost}
use Rattle.repair.specs.Found.{lots_of}
use Rattle.repair.specs.declared.Case.{Case as HeldCase}
use Rattle.room.specs.declared.Partial.{Partial}
use Rattle.parts.specs.Part.{placed, unplaced, Extends}
use Rattle.cuts.specs.Cut.{mended_on}
use Rattle.cuts.specs.Hopes.{Forward}
use Rattle.cuts.specs.Moves.{lands, has_to}
use Rattle.cuts.specs.Reasons.{asked, Struck, Later, Exclusive, Spent}
use Rattle.mend.specs.Sets.{SetOf}
use Rattle.mend.specs.declared.Moves.{Moves}

-- lot p is placed and not decided, and clashes where it stands with lot x in slot v
unfoldable pub driven : ℕ → List ℕ → List ℕ → List ℕ → ℕ → ℕ → ℕ → Bool
driven n ties s m x v p = placed 16 s p && (unplaced 16 m p && not (bit_of (tie_word n ties x v p) (get_or s p 0)))

-- lot p is placed and may not leave: its slot is not in its give word
unfoldable pub stuck : List ℕ → List ℕ → ℕ → Bool
stuck give s p = placed 16 s p && not (bit_of (get_or give p 0) (get_or s p 0))

-- slot v is in the domain of lot x, and x there clashes with none of the first k lots, as far as they are decided
unfoldable pub opens : ℕ → List ℕ → List ℕ → List ℕ → ℕ → ℕ → ℕ → Bool
opens n domain ties m x k v = bit_of (get_or domain x 0) v && every (λ q. imp (placed 16 m q) (bit_of (tie_word n ties q (get_or m q 0) x) v)) k

-- the word w has those slots
abbrev pub Opens : ℕ → List ℕ → List ℕ → List ℕ → ℕ → ℕ → ℕ → Type 0
Opens n domain ties m x k w = (v : ℕ) → bit_of w v ≡ opens n domain ties m x k v

-- s is struck by A, each decided lot may go where it goes, `left` more lots may move, and the sets are right
pub record Moving (W : Week) (s A m : List ℕ) (gone held forced left : ℕ) : Type 0 where
  pub struck : Struck W s A
  pub size : length m ≡ 24
  pub spent : Spent W s A m left
  pub land : (p : ℕ) → p < lots W → get_or m p 0 < 16 → lands (pair_rules W) (asked W s A) (placed 16 s) m p (get_or m p 0) ≡ true
  pub lost : SetOf (lots W) (is_lost A) gone
  pub stays : SetOf (lots W) (stuck W.give s) held
  pub moves : SetOf (lots W) (λ p. placed 16 s p && has_to (pair_rules W) (asked W s A) (placed 16 s) m p) forced

-- what the test of room is told: the slots that are left to each lot, and groups of lots of which no two may stand in one slot
pub record Roomed (W : Week) (s words groups : List ℕ) : Type 0 where
  pub forward : Forward (pair_rules W) s words
  pub exclusive : Exclusive W groups

-- the placed lots have a partial repair; or no repair of a super solution that extends s makes the moves m
abbrev pub Tells : Week → List ℕ → List ℕ → List ℕ → Bool → Type 0
Tells W s A m true = mended_on (pair_rules W) (asked W s A) (placed 16 s) ≡ true
Tells W s A m false = (u : List ℕ) → Later W s A u → Extends (lots W) 16 m u → ⊥

-- As the code holds them

-- the moves m for the case c
abbrev pub MovingBy : HeldCase → Moves → Type 0
MovingBy c m = Moving (lent c.week) c.order.now (lots_of c.lost) m.slots m.gone.0 m.held.0 m.forced.0 m.left

-- `at` is of the case's week and order, and its words and groups are what the test of room is told
pub record RoomedBy (c : HeldCase) (at : Partial) : Type 0 where
  pub week : lent at.week ≡ lent c.week
  pub order : at.order.now ≡ c.order.now
  pub roomed : Roomed (lent c.week) c.order.now at.words.now at.groups.now
