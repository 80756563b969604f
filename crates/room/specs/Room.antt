-- Room: the lots of a group need as many slots as they are. s is a partial order, and its lots that are not placed wait. Assumes nothing.
use Rattle.std.specs.Prelude.{◌≡◌, Bool, ◌&&◌, cond, List, ℕ, zero, suc, ◌+◌, ◌-◌, ◌<◌, eqb, ltb, leb, length, get_or}
use Rattle.std.specs.Int.Bits.{bit_or}
use Rattle.std.specs.Int.Count.{ones}
use Rattle.lex.specs.Every.{every, count}
use Rattle.parts.specs.Part.{unplaced}
use Rattle.room.specs.Words.{met_by}
use Rattle.room.specs.declared.Room.{Room}

-- the slots that any of the k first lots that pass f has in its word
unfoldable pub union : (ℕ → Bool) → (ℕ → ℕ) → ℕ → ℕ
union f word zero = 0
union f word (suc k) = let w = union f word k in cond (f k) (bit_or w (word k)) w

-- lot q is in group g and waits
unfoldable pub waits : List ℕ → List ℕ → ℕ → ℕ → Bool
waits s groups g q = unplaced 16 s q && eqb (get_or groups q 0) g

-- how many of the k first lots are and do, and the slots that are left to them
unfoldable pub waiting : List ℕ → List ℕ → ℕ → ℕ → ℕ
waiting s groups k g = count (waits s groups g) k

unfoldable pub room_for : List ℕ → List ℕ → (ℕ → ℕ) → ℕ → ℕ → ℕ
room_for s groups word k g = union (waits s groups g) word k

-- no lot and no slot
abbrev pub no_room : Room
no_room = record { lots = 0; slots = 0 }

-- both, of the k first lots and of every group, as the code counts them
pub record Counted (s groups : List ℕ) (word : ℕ → ℕ) (k : ℕ) (rooms : List Room) : Type 0 where
  pub size : length rooms ≡ 24
  pub crowd : (g : ℕ) → g < 24 → (get_or rooms g no_room).lots ≡ waiting s groups k g
  pub room : (g : ℕ) → g < 24 → (get_or rooms g no_room).slots ≡ room_for s groups word k g

-- how many slots of word w too few there are for c lots
unfoldable pub lacks : ℕ → ℕ → ℕ
lacks c w = c - ones w

-- group g has room, if `left` of its lots may move
unfoldable pub room_at : List ℕ → List ℕ → (ℕ → ℕ) → ℕ → ℕ → ℕ → Bool
room_at s groups word n left g = leb (lacks (waiting s groups n g) (room_for s groups word n g)) left

-- every group has room beside the moves that m decides, if `left` more lots may move
unfoldable pub room_by : ℕ → List ℕ → List ℕ → List ℕ → List ℕ → List ℕ → ℕ → Bool
room_by n ties s words groups m left = every (room_at s groups (met_by n ties words m n) n left) n

-- Slack

-- one more than the slots of word w that c lots leave over; 0 where they are too few, 17 for fewer than two lots
unfoldable pub slack_of : ℕ → ℕ → ℕ
slack_of c w = cond (ltb c 2) 17 (ones w + 1 - c)

unfoldable pub slack_at : List ℕ → List ℕ → (ℕ → ℕ) → ℕ → ℕ → ℕ
slack_at s groups word n g = slack_of (waiting s groups n g) (room_for s groups word n g)

unfoldable pub lesser : ℕ → ℕ → ℕ
lesser a b = cond (ltb b a) b a

-- the least f of the k first numbers, and 17 where none is below
unfoldable pub least_of : (ℕ → ℕ) → ℕ → ℕ
least_of f zero = 17
least_of f (suc k) = lesser (least_of f k) (f k)

-- the slack of the fullest group
unfoldable pub slack_by : ℕ → List ℕ → List ℕ → List ℕ → ℕ
slack_by n s words groups = least_of (slack_at s groups (λ q. get_or words q 0) n) n
