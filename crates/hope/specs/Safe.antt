-- The losses of the lots that a partial order s places, judged: by free slots at once, or by the search for a repair. Assumes nothing.
use Rattle.std.specs.Prelude.{◌≡◌, Bool, true, ◌&&◌, List, ℕ, ◌^◌, ◌<◌, length, get_or, Result, MatchResult}
use Rattle.week.specs.declared.Numbers.{Numbers}
use Rattle.week.specs.Rules.{bit_of, tie_word}
use Rattle.week.specs.Tables.{Week, lots, pair_rules, refusal, lent}
use Rattle.pairs.specs.Pairs.{pair}
use Rattle.repair.specs.declared.Lost.{Lost}
use Rattle.repair.specs.Break.{single}
use Rattle.repair.specs.Found.{lots_of}
use Rattle.repair.specs.Repair.{replaces, helps}
use Rattle.room.specs.declared.Partial.{Partial}
use Rattle.parts.specs.Part.{placed}
use Rattle.cuts.specs.Cut.{safe_on}
use Rattle.cuts.specs.Hopes.{Forward, alive}
use Rattle.cuts.specs.Reasons.{None, Why, Struck, Exclusive}
use Rattle.hope.specs.declared.Unmended.{Unmended}

-- s places some lots of an accepted week so that each lot still has a slot, and `words` has the slots that are left
pub record Going (W : Week) (s words : List ℕ) : Type 0 where
  pub fine : refusal W ≡ 0
  pub size : length s ≡ 24
  pub forward : Forward (pair_rules W) s words
  pub narrow : (p : ℕ) → p < lots W → get_or words p 0 < 2 ^ 16
  pub live : alive (pair_rules W) s ≡ true

-- A loss judged at once, by free slots

-- a lost lot may go from slot w to slot v
unfoldable pub leaves : Numbers → ℕ → ℕ → Bool
leaves N w v = helps N w v && replaces N w v

-- it may go to each slot of the word
abbrev pub Frees : Numbers → ℕ → ℕ → Type 0
Frees N w word = (v : ℕ) → bit_of word v ≡ true → leaves N w v ≡ true

-- each of the k first lots, if it is lost, may go to each slot of its word of `free`, which is one of its word in `words`
pub record Freed (N : Numbers) (s words : List ℕ) (k : ℕ) (free : List ℕ) : Type 0 where
  pub size : length free ≡ 24
  pub left : (p : ℕ) → p < k → (v : ℕ) → bit_of (get_or free p 0) v ≡ true → bit_of (get_or words p 0) v ≡ true
  pub goes : (p : ℕ) → p < k → Frees N (get_or s p 0) (get_or free p 0)
  pub narrow : (p : ℕ) → p < k → get_or free p 0 < 2 ^ 16

-- s is going, and `free` has those slots left to each lot to which it may go if it is lost
pub record Judging (W : Week) (s words free : List ℕ) : Type 0 where
  pub going : Going W s words
  pub freed : Freed W.numbers s words (lots W) free

-- lot x in a slot of word `first` and lot y in one of word `last` may stand together
pub record Paired (n : ℕ) (ties : List ℕ) (x first y last : ℕ) : Type 0 where
  pub v : ℕ
  pub w : ℕ
  pub one : bit_of first v ≡ true
  pub other : bit_of last w ≡ true
  pub beside : bit_of (tie_word n ties x v y) w ≡ true

-- lot p stands in a slot of its loss word
unfoldable pub risks : List ℕ → List ℕ → ℕ → Bool
risks loss s p = bit_of (get_or loss p 0) (get_or s p 0)

-- the losses of one lot, of lot x with one behind it, and of two
abbrev pub SafeSingles : Week → List ℕ → Type 0
SafeSingles W s = (p : ℕ) → p < lots W → safe_on W (placed 16 s) s (single p) ≡ true

abbrev pub SafePartners : Week → List ℕ → ℕ → Type 0
SafePartners W s x = (q : ℕ) → x < q → q < lots W → safe_on W (placed 16 s) s (pair x q) ≡ true

abbrev pub SafePairs : Week → List ℕ → Type 0
SafePairs W s = (p : ℕ) → p < lots W → SafePartners W s p

-- what is asked is safe; or the lots of the loss are a break without a repair, and no super solution extends s
abbrev pub Verdict : Week → List ℕ → Type 0 → Result Unit Unmended → Type 0
Verdict W s Safe result = MatchResult result (λ _. Safe) (λ e. Struck W s (lots_of e.lost) × None W s)

-- A partial order, as the code holds it

abbrev pub GoingAt : Partial → Type 0
GoingAt at = Going (lent at.week) at.order.now at.words.now

abbrev pub JudgingAt : Partial → List ℕ → Type 0
JudgingAt at free = Judging (lent at.week) at.order.now at.words.now free

-- no two lots of a group may stand in one slot
abbrev pub GroupedAt : Partial → Type 0
GroupedAt at = Exclusive (lent at.week) at.groups.now

-- lot p stands in a slot of its loss word
abbrev pub RisksAt : Partial → ℕ → Type 0
RisksAt at p = (p < at.week.numbers.n) × (risks at.week.loss.now at.order.now p ≡ true)

-- the loss is a break without a repair, and no super solution extends the order
abbrev pub DeadAt : Partial → Lost → Type 0
DeadAt at lost = Struck (lent at.week) at.order.now (lots_of lost) × None (lent at.week) at.order.now

-- r, in 24 places, is why the order can not be finished
abbrev pub WhyAt : Partial → List ℕ → Type 0
WhyAt at r = (length r ≡ 24) × Why (lent at.week) at.order.now r

abbrev pub VerdictAt : Partial → Type 0 → Result Unit Unmended → Type 0
VerdictAt at Safe result = Verdict (lent at.week) at.order.now Safe result
