-- Why a partial order s can not be finished, and what a loss among its placed lots asks. A reason is a part of s that no super solution extends.
-- Assumes nothing.
use Rattle.std.specs.Prelude.{◌≡◌, Bool, true, false, ◌&&◌, List, [], ℕ, ◌+◌, ◌<◌, get_or}
use Rattle.lex.specs.Every.{count}
use Rattle.lex.specs.First.{Passes, always}
use Rattle.week.specs.Rules.{together}
use Rattle.week.specs.Tables.{Week, lots, pair_rules, refusal}
use Rattle.repair.specs.Break.{breaks, row_count}
use Rattle.repair.specs.Repair.{Case, case, moves, mends}
use Rattle.robust.specs.Super.{row_sets}
use Rattle.parts.specs.Part.{placed, Extends}
use Rattle.cuts.specs.Cut.{mended_on}
use Rattle.cuts.specs.Hopes.{alive, Supers}

-- no super solution extends s
abbrev pub None : Week → List ℕ → Type 0
None W s = (u : List ℕ) → Supers W u → Extends (lots W) 16 s u → ⊥

-- r is why s can not be finished
pub record Why (W : Week) (s r : List ℕ) : Type 0 where
  pub part : Extends (lots W) 16 r s
  pub none : None W r

-- what a repair of the loss A is asked for, as far as s goes
abbrev pub asked : Week → List ℕ → List ℕ → Case
asked W s A = case W.numbers W.give s A

-- the lots of A are those of a row and a break of the lots that s places; each lot still has a slot
pub record Struck (W : Week) (s A : List ℕ) : Type 0 where
  pub fine : refusal W ≡ 0
  pub live : alive (pair_rules W) s ≡ true
  pub row : ℕ
  pub low : row < row_count (lots W) W.numbers.a
  pub set : A ≡ get_or (row_sets W) row []
  pub broken : breaks W.loss s A ≡ true

-- the placed lots have a partial repair for A; or no super solution extends s
abbrev pub Judges : Week → List ℕ → List ℕ → Bool → Type 0
Judges W s A true = mended_on (pair_rules W) (asked W s A) (placed 16 s) ≡ true
Judges W s A false = None W s

-- r repairs, for the loss A, a super solution that extends s
pub record Later (W : Week) (s A r : List ℕ) : Type 0 where
  pub order : List ℕ
  pub super : Supers W order
  pub extends : Extends (lots W) 16 s order
  pub mended : Passes (mends (pair_rules W) (asked W order A)) always 16 (lots W) r

-- Room

-- two lots of one group may never stand in one slot
abbrev pub Exclusive : Week → List ℕ → Type 0
Exclusive W groups = (p q v : ℕ) → p < q → q < lots W → get_or groups p 0 ≡ get_or groups q 0 → together (pair_rules W) p v q v ≡ false

-- m decides moves of placed lots for the loss A, after which `left` more lots may move
pub record Spent (W : Week) (s A m : List ℕ) (left : ℕ) : Type 0 where
  pub among : (p : ℕ) → p < lots W → get_or m p 0 < 16 → placed 16 s p ≡ true
  pub spent : left + count (λ p. placed 16 m p && moves (asked W s A) p (get_or m p 0)) (lots W) ≡ W.numbers.b
