-- The moves of a save: which are taken (refusal 11), what they do to an order and to the marks, and when they are stale or idle (12, 13).
-- Assumes nothing.
use Rattle.std.specs.Prelude.{Bool, true, ◌&&◌, ◌||◌, not, List, [], ◌∷◌, ℕ, ◌*◌, ◌%◌, eqb, ltb, leb, length, get_or, set}
use Rattle.lex.specs.Every.{imp, all, every, every_of, some_of}
use Rattle.week.specs.Rules.{Rules, bit_of, tied}
use Rattle.sheet.specs.declared.Move.{Move as Held}

-- one lot to one slot
pub record Move : Type 0 where
  pub lot : ℕ
  pub slot : ℕ

abbrev pub move : ℕ → ℕ → Move
move p v = record { lot = p; slot = v }

-- the same, as the code holds it
abbrev pub move_of : Held → Move
move_of x = move x.lot.0 x.slot.0

-- moves come as byte pairs (lot, slot); a last odd byte is none
unfoldable pub moves_of : List ℕ → List Move
moves_of [] = []
moves_of (p ∷ []) = []
moves_of (p ∷ v ∷ m) = move p v ∷ moves_of m

-- the same of whole pairs
abbrev pub move_at : List ℕ → Move
move_at b = move (get_or b 0 0) (get_or b 1 0)

abbrev pub moves_at : List (List ℕ) → List Move
moves_at [] = []
moves_at (b ∷ m) = move_at b ∷ moves_at m

-- the moves name lot p
unfoldable pub is_of : ℕ → Move → Bool
is_of p x = eqb x.lot p

unfoldable pub names : List Move → ℕ → Bool
names l p = some_of (is_of p) l

-- 11: a lot of the week, and a slot of its domain
unfoldable pub move_ok : ℕ → List ℕ → Move → Bool
move_ok n domain x = ltb x.lot n && bit_of (get_or domain x.lot 0) x.slot

-- 11: no lot is named twice
unfoldable pub once : List Move → Bool
once [] = true
once (x ∷ l) = not (names l x.lot) && once l

-- 11: whole pairs, 1 to n of them, each right, no lot twice
abbrev pub moves_tests : ℕ → List ℕ → List ℕ → List Bool
moves_tests n domain m =
    leb 1 (length m)
    ∷ leb (length m) (n * 2)
    ∷ eqb (length m % 2) 0
    ∷ every_of (move_ok n domain) (moves_of m)
    ∷ once (moves_of m)
    ∷ []

unfoldable pub moves_ok : ℕ → List ℕ → List ℕ → Bool
moves_ok n domain m = all (moves_tests n domain m)

-- 12: lot q is p, or tied to it
unfoldable pub near : Rules → ℕ → ℕ → Bool
near R p q = eqb p q || tied R p q

-- 12: where lot q counts for a move of p, its mark is not above copy number c
unfoldable pub fresh_at : Rules → List ℕ → ℕ → ℕ → ℕ → Bool
fresh_at R marks c p q = imp (near R p q) (leb (get_or marks q 0) c)

unfoldable pub fresh_lot : Rules → List ℕ → ℕ → ℕ → Bool
fresh_lot R marks c p = every (fresh_at R marks c p) R.lots

unfoldable pub fresh_move : Rules → List ℕ → ℕ → Move → Bool
fresh_move R marks c x = fresh_lot R marks c x.lot

-- 12: not stale: no moved lot, and none tied to one, has a mark above the copy number
unfoldable pub fresh : Rules → List ℕ → ℕ → List Move → Bool
fresh R marks c l = every_of (fresh_move R marks c) l

-- 13: the move is to another slot than the lot stands in
unfoldable pub stirs : List ℕ → Move → Bool
stirs s x = not (eqb (get_or s x.lot 0) x.slot)

-- the order with all moves put in
unfoldable pub placed_all : List Move → List ℕ → List ℕ
placed_all [] s = s
placed_all (x ∷ l) s = placed_all l (set s x.lot x.slot)

-- the marks with every moved lot's set to save number k
unfoldable pub marked_all : ℕ → List Move → List ℕ → List ℕ
marked_all k [] marks = marks
marked_all k (x ∷ l) marks = marked_all k l (set marks x.lot k)
