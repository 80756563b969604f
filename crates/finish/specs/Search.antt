-- What the functions of the search ask and answer: whether a super solution extends a partial order, and why none does. A part of an order s is a partial
-- order that s extends. Assumes nothing.
use Rattle.std.specs.Prelude.{◌≡◌, Bool, true, false, List, ℕ, ◌≤◌, ◌<◌, length, get_or, take, Option, Some, None, Result, Ok, Err}
use Rattle.week.specs.declared.Lot.{Lot}
use Rattle.week.specs.declared.Order.{Order}
use Rattle.week.specs.Rules.{bit_of}
use Rattle.week.specs.Tables.{Week, lots, pair_rules}
use Rattle.parts.specs.Part.{Extends, Decides, Above}
use Rattle.cuts.specs.Hopes.{is_left, Supers}
use Rattle.hope.specs.Safe.{Going}
use Rattle.room.specs.Words.{met_word, Made}
use Rattle.finish.specs.declared.Choice.{Choice}
use Rattle.finish.specs.declared.Part.{Part}

-- the lot, n for none
abbrev pub lot_or : ℕ → Option Lot → ℕ
lot_or n None = n
lot_or n (Some p) = p.0

-- the lot of a choice
abbrev pub lot_of : Option Choice → Option Lot
lot_of None = None
lot_of (Some c) = Some c.lot

-- of the q first lots, `best` is one that s does not place, any one; n where it places all
pub record Best (n : ℕ) (s : List ℕ) (q best : ℕ) : Type 0 where
  pub high : best ≤ n
  pub idle : best < n → 16 ≤ get_or s best 0
  pub full : best ≡ n → (p : ℕ) → p < q → get_or s p 0 < 16

-- `best` as the code holds it: a lot below n, or none
abbrev pub Chosen : ℕ → List ℕ → ℕ → Option Lot → Type 0
Chosen n s q None = Best n s q n
Chosen n s q (Some p) = (p.0 < n) × Best n s q p.0

-- lot x is next: s does not place it
pub record Next (W : Week) (s words : List ℕ) (x : ℕ) : Type 0 where
  pub going : Going W s words
  pub lot : x < lots W
  pub idle : 16 ≤ get_or s x 0

-- r, a part of s, is why the slots of lot x below v fail, and why it has no slots but those of its word
pub record Held (W : Week) (s words : List ℕ) (x v : ℕ) (r : List ℕ) : Type 0 where
  pub size : length r ≡ 24
  pub part : Extends (lots W) 16 r s
  pub bound : (w : ℕ) → is_left (pair_rules W) r x w ≡ true → bit_of (get_or words x 0) w ≡ true
  pub above : Above (Supers W) (lots W) 16 r x v

-- the words of the q first lots with lot x in slot v, and each that is not placed has a slot
pub record Fed (W : Week) (s words : List ℕ) (x v q : ℕ) (met : List ℕ) : Type 0 where
  pub made : Made q (met_word (lots W) W.ties words x v) met
  pub fed : (p : ℕ) → p < q → 16 ≤ get_or s p 0 → get_or met p 0 ≡ 0 → ⊥

-- with lot x in slot v lot q has no slot left
pub record Starves (W : Week) (words : List ℕ) (x v q : ℕ) : Type 0 where
  pub lot : q < lots W
  pub none : met_word (lots W) W.ties words x v q ≡ 0

-- with lot x in slot v each lot still has a slot, those of `met`; or the lot has none
abbrev pub Feeds : Week → List ℕ → List ℕ → ℕ → ℕ → Option Lot → List ℕ → Type 0
Feeds W s words x v None met = Fed W s words x v (lots W) met
Feeds W s words x v (Some q) met = Starves W words x v q.0

-- t is a super solution that extends s, and none has a smaller slot for lot x; or t, a part of s, rules out those with a slot below `most` for it.
-- Where x is no lot it may be left out: s places every lot.
abbrev pub Answers : Week → List ℕ → ℕ → ℕ → Bool → List ℕ → Type 0
Answers W s x most true t = Decides (Supers W) (lots W) 16 s true t × (x < lots W → Above (Supers W) (lots W) 16 s x (get_or t x 0))
Answers W s x most false t = Extends (lots W) 16 t s × ((u : List ℕ) → Supers W u → Extends (lots W) 16 t u → (x < lots W) × (most ≤ get_or u x 0))

-- what is found, or why nothing is, in 24 places
abbrev pub Finished : Week → List ℕ → ℕ → ℕ → Result Order Part → Type 0
Finished W s x most (Ok found) = (length found.slots ≡ 24) × Answers W s x most true found.slots
Finished W s x most (Err part) = (length part.0 ≡ 24) × Answers W s x most false part.0

-- t is a super solution that extends s
pub record Known (W : Week) (s t : List ℕ) : Type 0 where
  pub size : length t ≡ 24
  pub has : Supers W (take (lots W) t)
  pub extends : Extends (lots W) 16 s t
