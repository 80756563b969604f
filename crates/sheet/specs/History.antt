-- Histories of one opened sheet: any sequence of copies and saves, by any number of desks, ill-formed and refused calls included. The
-- four tables are the same at every call; the six numbers are each call's own. Which desk calls does not matter: any desk may save from
-- any copy. W is the week with which the sheet was opened. Assumes nothing.
use Rattle.std.specs.Prelude.{◌≡◌, Bool, true, false, ◌&&◌, ◌||◌, not, cond, List, [], ◌∷◌, ℕ, ◌≤◌, eqb, length, get_or, take}
use Rattle.week.specs.declared.Numbers.{Numbers}
use Rattle.week.specs.Tables.{Week, week, lots, pair_rules}
use Rattle.sheet.specs.declared.Sheet.{Sheet}
use Rattle.sheet.specs.Moves.{moves_of, names, near, placed_all}
use Rattle.sheet.specs.Sheet.{Saved, copied, saved}

-- what a call is lent: its own numbers and the tables of W
abbrev pub lent : Week → Numbers → Week
lent W N = week N W.domain W.loss W.give W.ties

-- a save as a desk sends it: its numbers, its copy number and its moves
pub record Save : Type 0 where
  pub numbers : Numbers
  pub copy : ℕ
  pub moves : List ℕ

abbrev pub save : Numbers → ℕ → List ℕ → Save
save N c m = record { numbers = N; copy = c; moves = m }

-- a copy, with its numbers, or a save
pub data Call : Type 0 where
  copying : Numbers → Call
  saving : Save → Call

-- what a save answers and leaves
abbrev pub saved_by : Week → Sheet → Save → Saved
saved_by W S x = saved (lent W x.numbers) S x.copy x.moves

-- the sheet after one call
unfoldable pub step : Week → Sheet → Call → Sheet
step W S (copying N) = S
step W S (saving x) = (saved_by W S x).sheet

-- the sheet after a history; every beginning of a history is one, so what holds after each holds at every moment
unfoldable pub after : Week → Sheet → List Call → Sheet
after W S [] = S
after W S (x ∷ h) = after W (step W S x) h

-- the order of the week's lots
abbrev pub order_of : Week → Sheet → List ℕ
order_of W S = take (lots W) S.order

-- refused with none of 1 to 11
abbrev pub WellFormed : ℕ → Type 0
WellFormed a = 1 ≤ a → a ≤ 11 → ⊥

-- lot p stands elsewhere on T than on S
unfoldable pub shifted : Sheet → Sheet → ℕ → Bool
shifted S T p = not (eqb (get_or S.order p 0) (get_or T.order p 0))

-- some call of a history moves lot p; only an accepted save can (`refused_nothing` of crate `demands`)
unfoldable pub moved_in : Week → Sheet → List Call → ℕ → Bool
moved_in W S [] p = false
moved_in W S (x ∷ h) p = shifted S (step W S x) p || moved_in W (step W S x) h p

-- a lot that the moves name, or one tied to it, was moved in a history that began with sheet S
pub record Overtaken (W : Week) (S : Sheet) (h : List Call) (m : List ℕ) : Type 0 where
  pub named : ℕ
  pub lot : ℕ
  pub names : names (moves_of m) named ≡ true
  pub near : near (pair_rules W) named lot ≡ true
  pub moved : moved_in W S h lot ≡ true

-- the answer to a save with numbers N and moves m from a copy of sheet S, taken with numbers M, when the calls g have come after that copy
abbrev pub answer_since : Week → Sheet → Numbers → List Call → Numbers → List ℕ → ℕ
answer_since W S M g N m = (saved_by W (after W S (copying M ∷ g)) (save N (copied (lent W M) S).copy m)).answer

-- the accepted saves of a history, one after another
unfoldable pub accepted_in : Week → Sheet → List Call → List Save
accepted_in W S [] = []
accepted_in W S (copying N ∷ h) = accepted_in W S h
accepted_in W S (saving x ∷ h) = let l = accepted_in W (saved_by W S x).sheet h in cond (eqb (saved_by W S x).answer 0) (x ∷ l) l

-- an order with the moves of saves put in, one save after the other
unfoldable pub put_in : List Save → List ℕ → List ℕ
put_in [] s = s
put_in (x ∷ l) s = put_in l (placed_all (moves_of x.moves) s)

-- the end of a history of the sheet opened on order o: that order with the accepted saves' moves put in, and their number
pub record Ended (W : Week) (o : List ℕ) (S : Sheet) (h : List Call) : Type 0 where
  pub order : order_of W (after W S h) ≡ put_in (accepted_in W S h) o
  pub saves : (after W S h).saves ≡ length (accepted_in W S h)

-- a save made again: its own numbers and moves, from a fresh copy
abbrev pub again : Week → Sheet → Save → Saved
again W S x = saved_by W S (save x.numbers (copied (lent W x.numbers) S).copy x.moves)

-- saves made again one by one: the sheet afterwards, and whether each is accepted
unfoldable pub one_by_one : Week → Sheet → List Save → Sheet
one_by_one W S [] = S
one_by_one W S (x ∷ l) = one_by_one W (again W S x).sheet l

unfoldable pub each_taken : Week → Sheet → List Save → Bool
each_taken W S [] = true
each_taken W S (x ∷ l) = eqb (again W S x).answer 0 && each_taken W (again W S x).sheet l

-- the end of a history is that of its accepted saves one by one, each from a fresh copy and each accepted there
pub record Replayed (W : Week) (S : Sheet) (h : List Call) : Type 0 where
  pub end : one_by_one W S (accepted_in W S h) ≡ after W S h
  pub each : each_taken W S (accepted_in W S h) ≡ true

-- two saves on sheet S, the later one y first and then x: both accepted, and the end is as on sheet T but for the marks
pub record OtherWay (W : Week) (S : Sheet) (x y : Save) (T : Sheet) : Type 0 where
  pub first : (saved_by W S y).answer ≡ 0
  pub second : (saved_by W (saved_by W S y).sheet x).answer ≡ 0
  pub order : (saved_by W (saved_by W S y).sheet x).sheet.order ≡ T.order
  pub saves : (saved_by W (saved_by W S y).sheet x).sheet.saves ≡ T.saves
