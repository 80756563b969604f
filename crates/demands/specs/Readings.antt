-- Demand 1: what the tests of the checks ask, in plain words. Of each test there stands when it passes and, as in document 01's table of
-- refusals, when it fails; proofs/Readings.antt proves both. 2, 10 and 14 compare numbers and say themselves; 5, and 8 over all orders, are
-- read in proofs/Demand2.antt (`super_found`, `repair_found`). Assumes nothing.
use Rattle.std.specs.Prelude.{◌≡◌, Bool, true, false, ◌↔◌, ◌≢◌, ◌⊎◌, List, ℕ, ◌+◌, ◌*◌, ◌-◌, ◌/◌, ◌%◌, ◌≤◌, ◌<◌, length, get_or, take}
use Rattle.lex.specs.Every.{count}
use Rattle.week.specs.declared.Numbers.{Numbers}
use Rattle.week.specs.Rules.{Rules, bit_of, in_domain, together}
use Rattle.repair.specs.Repair.{Case, moves_at}
use Rattle.sheet.specs.declared.Sheet.{Sheet}
use Rattle.sheet.specs.Moves.{moves_of, placed_all}
use Rattle.block.specs.Parts.{byte_of}
use Rattle.block.specs.Content.{content_size}
use Rattle.block.specs.File.{blocks}
use Rattle.block.specs.Reading.{content_in}

-- test t passes exactly if P, and fails exactly if N
pub record Reads (t : Bool) (P N : Type 0) : Type 0 where
  pub passes : (t ≡ true) ↔ P
  pub fails : (t ≡ false) ↔ N

infixr 2 ◌or◌
infixr 3 ◌and◌
abbrev pub ◌or◌ : Type 0 → Type 0 → Type 0
P or N = P ⊎ N

abbrev pub ◌and◌ : Type 0 → Type 0 → Type 0
P and N = P × N

-- every number below n
abbrev pub AllBelow : ℕ → (ℕ → Type 0) → Type 0
AllBelow n P = (k : ℕ) → k < n → P k

-- some number below n
pub record SomeBelow (n : ℕ) (P : ℕ → Type 0) : Type 0 where
  pub one : ℕ
  pub below : one < n
  pub is : P one

-- 1: the six numbers

abbrev pub NumbersRight : Numbers → Type 0
NumbersRight N =
    1 ≤ N.n
    and N.n ≤ 24
    and N.a ≤ 2
    and N.b ≤ 3
    and N.alternative ≤ 1
    and N.gap ≤ 15
    and (N.alternative ≡ 0 → N.gap ≡ 0)
    and N.helper ≤ 1

abbrev pub NumbersWrong : Numbers → Type 0
NumbersWrong N =
    N.n < 1
    or 24 < N.n
    or 2 < N.a
    or 3 < N.b
    or 1 < N.alternative
    or 15 < N.gap
    or (N.alternative ≡ 0 and N.gap ≢ 0)
    or 1 < N.helper

-- 1: lost lots A of n, `least` to `most` of them

abbrev pub LostRight : ℕ → ℕ → ℕ → List ℕ → Type 0
LostRight n least most A =
    least ≤ length A
    and length A ≤ most
    and AllBelow (length A) (λ i. get_or A i 0 < n)
    and AllBelow (length A - 1) (λ i. get_or A i 0 < get_or A (i + 1) 0)

abbrev pub LostWrong : ℕ → ℕ → ℕ → List ℕ → Type 0
LostWrong n least most A =
    length A < least
    or most < length A
    or SomeBelow (length A) (λ i. n ≤ get_or A i 0)
    or SomeBelow (length A - 1) (λ i. get_or A (i + 1) 0 ≤ get_or A i 0)

-- 3: the words of a lot: domain d, loss l, give g

-- every slot of word x is in word y
abbrev pub Inside : ℕ → ℕ → Type 0
Inside x y = AllBelow 16 (λ v. bit_of x v ≡ true → bit_of y v ≡ true)

abbrev pub Outside : ℕ → ℕ → Type 0
Outside x y = SomeBelow 16 (λ v. bit_of x v ≡ true and bit_of y v ≡ false)

abbrev pub LotRight : ℕ → ℕ → ℕ → Type 0
LotRight d l g = d ≢ 0 and Inside l d and Inside g d

abbrev pub LotWrong : ℕ → ℕ → ℕ → Type 0
LotWrong d l g = d ≡ 0 or Outside l d or Outside g d

-- 4: bit w of the word for lot p in slot v beside lot q

abbrev pub BitRight : Rules → ℕ → ℕ → ℕ → ℕ → Type 0
BitRight R p q v w =
    (together R p v q w ≡ true → in_domain R p v ≡ true and in_domain R q w ≡ true and p ≢ q)
    and together R p v q w ≡ together R q w p v

abbrev pub BitWrong : Rules → ℕ → ℕ → ℕ → ℕ → Type 0
BitWrong R p q v w =
    (together R p v q w ≡ true and (in_domain R p v ≡ false or in_domain R q w ≡ false or p ≡ q))
    or together R p v q w ≢ together R q w p v

abbrev pub TiesRight : Rules → Type 0
TiesRight R = AllBelow R.lots (λ p. AllBelow R.lots (λ q. AllBelow 16 (λ v. AllBelow 16 (λ w. BitRight R p q v w))))

abbrev pub TiesWrong : Rules → Type 0
TiesWrong R = SomeBelow R.lots (λ p. SomeBelow R.lots (λ q. SomeBelow 16 (λ v. SomeBelow 16 (λ w. BitWrong R p q v w))))

-- 6: the order s, in 9 and 13 that of the sheet

abbrev pub KeepsRules : Rules → List ℕ → Type 0
KeepsRules R s =
    AllBelow (length s) (λ p. in_domain R p (get_or s p 0) ≡ true)
    and AllBelow (length s) (λ p. AllBelow (length s) (λ q. p ≡ q or together R p (get_or s p 0) q (get_or s q 0) ≡ true))

abbrev pub BreaksRules : Rules → List ℕ → Type 0
BreaksRules R s =
    SomeBelow (length s) (λ p. in_domain R p (get_or s p 0) ≡ false)
    or SomeBelow (length s) (λ p. SomeBelow (length s) (λ q. p ≢ q and together R p (get_or s p 0) q (get_or s q 0) ≡ false))

-- 8: the order r is a repair in the case C; w is the slot in which a lot stood, and v the slot to which it goes

abbrev pub IsLost : List ℕ → ℕ → Type 0
IsLost A p = SomeBelow (length A) (λ i. p ≡ get_or A i 0)

abbrev pub NotLost : List ℕ → ℕ → Type 0
NotLost A p = AllBelow (length A) (λ i. p ≢ get_or A i 0)

-- a lost lot
abbrev pub Replaces : Numbers → ℕ → ℕ → Type 0
Replaces N w v = w ≢ v and (N.alternative ≡ 1 → w + N.gap < v)

abbrev pub ReplacesNot : Numbers → ℕ → ℕ → Type 0
ReplacesNot N w v = w ≡ v or (N.alternative ≡ 1 and v ≤ w + N.gap)

-- another lot, with the give word g
abbrev pub Yields : ℕ → ℕ → ℕ → Type 0
Yields g w v = w ≡ v or bit_of g w ≡ true

abbrev pub YieldsNot : ℕ → ℕ → ℕ → Type 0
YieldsNot g w v = w ≢ v and bit_of g w ≡ false

abbrev pub MayGo : Case → ℕ → ℕ → ℕ → Type 0
MayGo C p w v =
    (C.numbers.helper ≡ 1 → w ≤ v)
    and ((IsLost C.lost p → Replaces C.numbers w v) and (NotLost C.lost p → Yields (get_or C.give p 0) w v))

abbrev pub MayNotGo : Case → ℕ → ℕ → ℕ → Type 0
MayNotGo C p w v =
    (C.numbers.helper ≡ 1 and v < w)
    or (IsLost C.lost p and ReplacesNot C.numbers w v)
    or (NotLost C.lost p and YieldsNot (get_or C.give p 0) w v)

-- a lot outside the lost set that moves; at most b of them may
abbrev pub Moves : Case → ℕ → ℕ → ℕ → Type 0
Moves C p w v = NotLost C.lost p and w ≢ v

abbrev pub MovesNot : Case → ℕ → ℕ → ℕ → Type 0
MovesNot C p w v = IsLost C.lost p or w ≡ v

abbrev pub RepairRight : Rules → Case → List ℕ → Type 0
RepairRight R C r =
    length r ≡ R.lots
    and KeepsRules R r
    and AllBelow (length r) (λ p. MayGo C p (get_or C.stands p 0) (get_or r p 0))
    and count (moves_at C r) (length r) ≤ C.numbers.b

abbrev pub RepairWrong : Rules → Case → List ℕ → Type 0
RepairWrong R C r =
    length r ≢ R.lots
    or BreaksRules R r
    or SomeBelow (length r) (λ p. MayNotGo C p (get_or C.stands p 0) (get_or r p 0))
    or C.numbers.b < count (moves_at C r) (length r)

-- 9: a sheet

abbrev pub SheetRight : Rules → Sheet → Type 0
SheetRight R S =
    S.n ≡ R.lots
    and S.saves ≤ 65535
    and KeepsRules R (take R.lots S.order)
    and AllBelow R.lots (λ p. get_or S.marks p 0 ≤ S.saves)

abbrev pub SheetWrong : Rules → Sheet → Type 0
SheetWrong R S =
    S.n ≢ R.lots
    or 65535 < S.saves
    or BreaksRules R (take R.lots S.order)
    or SomeBelow R.lots (λ p. S.saves < get_or S.marks p 0)

-- The moves of a save, as bytes m: move i takes one lot to one slot

abbrev pub move_count : List ℕ → ℕ
move_count m = length m / 2

abbrev pub lot_at : List ℕ → ℕ → ℕ
lot_at m i = get_or m (i * 2) 0

abbrev pub slot_at : List ℕ → ℕ → ℕ
slot_at m i = get_or m (i * 2 + 1) 0

-- 11

abbrev pub MovesRight : ℕ → List ℕ → List ℕ → Type 0
MovesRight n domain m =
    1 ≤ length m
    and length m ≤ n * 2
    and length m % 2 ≡ 0
    and AllBelow (move_count m) (λ i. lot_at m i < n and bit_of (get_or domain (lot_at m i) 0) (slot_at m i) ≡ true)
    and AllBelow (move_count m) (λ j. AllBelow j (λ i. lot_at m j ≢ lot_at m i))

abbrev pub MovesWrong : ℕ → List ℕ → List ℕ → Type 0
MovesWrong n domain m =
    length m < 1
    or n * 2 < length m
    or length m % 2 ≢ 0
    or SomeBelow (move_count m) (λ i. n ≤ lot_at m i or bit_of (get_or domain (lot_at m i) 0) (slot_at m i) ≡ false)
    or SomeBelow (move_count m) (λ j. SomeBelow j (λ i. lot_at m j ≡ lot_at m i))

-- 12: some slots of the domains of two different lots may not stand together

abbrev pub Tied : Rules → ℕ → ℕ → Type 0
Tied R p q = p ≢ q and SomeBelow 16 (λ v. SomeBelow 16 (λ w. (in_domain R p v ≡ true and in_domain R q w ≡ true) and together R p v q w ≡ false))

abbrev pub Untied : Rules → ℕ → ℕ → Type 0
Untied R p q = p ≡ q or AllBelow 16 (λ v. AllBelow 16 (λ w. in_domain R p v ≡ true and in_domain R q w ≡ true → together R p v q w ≡ true))

-- a moved lot, or one tied to it, has a mark above copy number c
abbrev pub Stale : Rules → List ℕ → ℕ → List ℕ → Type 0
Stale R marks c m = SomeBelow (move_count m) (λ i. SomeBelow R.lots (λ q. (lot_at m i ≡ q or Tied R (lot_at m i) q) and c < get_or marks q 0))

abbrev pub Fresh : Rules → List ℕ → ℕ → List ℕ → Type 0
Fresh R marks c m = AllBelow (move_count m) (λ i. AllBelow R.lots (λ q. lot_at m i ≡ q or Tied R (lot_at m i) q → get_or marks q 0 ≤ c))

-- 13: a move to the slot in which the lot stands, or a result that breaks the rules

abbrev pub ResultRight : Rules → List ℕ → List ℕ → Type 0
ResultRight R s m =
    AllBelow (move_count m) (λ i. get_or s (lot_at m i) 0 ≢ slot_at m i)
    and KeepsRules R (take R.lots (placed_all (moves_of m) s))

abbrev pub ResultWrong : Rules → List ℕ → List ℕ → Type 0
ResultWrong R s m =
    SomeBelow (move_count m) (λ i. get_or s (lot_at m i) 0 ≡ slot_at m i)
    or BreaksRules R (take R.lots (placed_all (moves_of m) s))

-- 15: 1 to 18 whole blocks

abbrev pub Whole : List ℕ → Type 0
Whole F = SomeBelow 19 (λ b. 1 ≤ b and length F ≡ b * 512)

abbrev pub WholeNot : List ℕ → Type 0
WholeNot F = AllBelow 19 (λ b. 1 ≤ b → length F ≢ b * 512)

-- 16, 17: the four bytes of file F from `from` on are the number x
abbrev pub Holds : List ℕ → ℕ → ℕ → Type 0
Holds F from x = AllBelow 4 (λ j. get_or F (from + j) 0 ≡ byte_of x j)

abbrev pub HoldsNot : List ℕ → ℕ → ℕ → Type 0
HoldsNot F from x = SomeBelow 4 (λ j. get_or F (from + j) 0 ≢ byte_of x j)

-- 18: what stands behind the content of n lots
abbrev pub Filled : List ℕ → ℕ → Type 0
Filled F n = AllBelow (blocks n * 504 - content_size n) (λ i. content_in F (content_size n + i) ≡ 0)

abbrev pub FilledNot : List ℕ → ℕ → Type 0
FilledNot F n = SomeBelow (blocks n * 504 - content_size n) (λ i. content_in F (content_size n + i) ≢ 0)
