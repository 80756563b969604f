-- Demand 2: super solutions in plain words, over all orders and all sets of lots.
-- Assumes nothing.
use Rattle.std.specs.Prelude.{◌≡◌, true, false, List, ℕ, ◌+◌, ◌≤◌, ◌<◌, length, get_or}
use Rattle.lex.specs.Dictionary.{Before}
use Rattle.week.specs.Rules.{keeps}
use Rattle.week.specs.Tables.{Week, lots, pair_rules}
use Rattle.repair.specs.Break.{row_number, row_at}
use Rattle.repair.specs.Repair.{case, is_repair}
use Rattle.robust.specs.Super.{is_break}

-- A names 1 to a of n lots, ascending
pub record SetOfLots (n a : ℕ) (A : List ℕ) : Type 0 where
  pub some : 1 ≤ length A
  pub few : length A ≤ a
  pub below : (i : ℕ) → i < length A → get_or A i 0 < n
  pub ascends : (i : ℕ) → i + 1 < length A → get_or A i 0 < get_or A (i + 1) 0

-- r is a repair of order s for the lost lots A
abbrev pub Repair : Week → List ℕ → List ℕ → List ℕ → Type 0
Repair W s A r = is_repair (pair_rules W) (case W.numbers W.give s A) r ≡ true

-- order s keeps the rules, and every set of 1 to a lots that is a break of it has a repair
pub record Super (W : Week) (s : List ℕ) : Type 0 where
  pub size : length s ≡ lots W
  pub rules : keeps (pair_rules W) s ≡ true
  pub repaired : (A : List ℕ) → SetOfLots (lots W) W.numbers.a A → is_break W s A ≡ true → (r : List ℕ) × Repair W s A r

-- s has the property Q, and no list before it has
pub record FirstOf (Q : List ℕ → Type 0) (s : List ℕ) : Type 0 where
  pub has : Q s
  pub none : (l : List ℕ) → Q l → Before l s → ⊥

-- the row r of set A in the repair table of order s: the first repair of a break, and s itself where A is none
pub record RowOf (W : Week) (s A r : List ℕ) : Type 0 where
  pub broken : is_break W s A ≡ true → FirstOf (Repair W s A) r
  pub whole : is_break W s A ≡ false → r ≡ s

-- row r of set A in a table of order s from any maker: some repair of a break, and s itself where A is none
pub record RightRow (W : Week) (s A r : List ℕ) : Type 0 where
  pub broken : is_break W s A ≡ true → Repair W s A r
  pub whole : is_break W s A ≡ false → r ≡ s

-- the row that stands for set A
abbrev pub row_for : Week → List ℕ → List ℕ → List ℕ
row_for W table A = row_at (lots W) table (row_number (lots W) A)

-- order s is a super solution, and the row of every set of 1 to a lots is right
pub record Robust (W : Week) (s table : List ℕ) : Type 0 where
  pub super : Super W s
  pub rows : (A : List ℕ) → SetOfLots (lots W) W.numbers.a A → RightRow W s A (row_for W table A)

-- row i is the first that is wrong: the row of some set, and the rows of all sets before it are right
pub record FirstWrong (W : Week) (s table : List ℕ) (i : ℕ) : Type 0 where
  pub set : List ℕ
  pub is : SetOfLots (lots W) W.numbers.a set
  pub number : row_number (lots W) set ≡ i
  pub wrong : RightRow W s set (row_for W table set) → ⊥
  pub before : (A : List ℕ) → SetOfLots (lots W) W.numbers.a A → row_number (lots W) A < i → RightRow W s A (row_for W table A)
