-- The text that the printing program writes for a block file, byte by byte (ASCII).
-- Assumes nothing.
use Rattle.std.specs.Prelude.{◌≡◌, cond, ℕ, ◌+◌, ◌/◌, ◌%◌, eqb, ltb, length, Result, Ok, Err}
use mathlib.Core.List.{List, [], ◌∷◌, ◌++◌, flat_map}
use Rattle.lex.specs.First.{is_found, or_old}
use Rattle.lex.specs.Lists.{padded}
use Rattle.week.specs.declared.Refusal.{Refusal}
use Rattle.week.specs.Refusal.{unless, or_else}
use Rattle.week.specs.Tables.{Week}
use Rattle.robust.specs.Super.{row_sets, first_super, row_of}
use Rattle.block.specs.Reading.{week_in, file_refusal}

-- "plan", "lost", " :", "refused" and the end of a line
unfoldable pub plan_word : List ℕ
plan_word = 112 ∷ 108 ∷ 97 ∷ 110 ∷ []

unfoldable pub lost_word : List ℕ
lost_word = 108 ∷ 111 ∷ 115 ∷ 116 ∷ []

unfoldable pub colon_word : List ℕ
colon_word = 32 ∷ 58 ∷ []

unfoldable pub refused_word : List ℕ
refused_word = 114 ∷ 101 ∷ 102 ∷ 117 ∷ 115 ∷ 101 ∷ 100 ∷ []

unfoldable pub newline : List ℕ
newline = 10 ∷ []

-- a number in decimal; lots, slots and refusals are below 100
unfoldable pub digits : ℕ → List ℕ
digits x = cond (ltb x 10) ((48 + x) ∷ []) ((48 + x / 10 % 10) ∷ (48 + x % 10) ∷ [])

-- single spaces between all fields: each brings the space before it
unfoldable pub field : ℕ → List ℕ
field x = 32 ∷ digits x

unfoldable pub fields : List ℕ → List ℕ
fields s = flat_map field s

-- after "plan", the slots by lot
unfoldable pub plan_line : List ℕ → List ℕ
plan_line s = plan_word ++ (fields s ++ newline)

-- after "lost", the lot numbers of the row's set, a colon, the row
unfoldable pub lost_line : List ℕ → List ℕ → List ℕ
lost_line A r = lost_word ++ (fields A ++ (colon_word ++ (fields r ++ newline)))

-- "refused" and the number
unfoldable pub refused_line : ℕ → List ℕ
refused_line k = refused_word ++ (field k ++ newline)

-- the line of a set's row in order s
unfoldable pub row_line : Week → List ℕ → List ℕ → List ℕ
row_line W s A = lost_line A (row_of W s A)

-- the plan of order s: one line for every row, in row order
unfoldable pub plan_lines : Week → List ℕ → List ℕ
plan_lines W s = plan_line s ++ flat_map (row_line W s) (row_sets W)

-- the refusal of a file: read's, else 5 where its week has no super solution
unfoldable pub plan_answer : List ℕ → ℕ
plan_answer F = or_else (file_refusal F) (unless (is_found (first_super (week_in F))) 5)

-- what is printed for the file F
unfoldable pub plan_text : List ℕ → List ℕ
plan_text F = cond (eqb (plan_answer F) 0) (plan_lines (week_in F) (or_old (first_super (week_in F)) [])) (refused_line (plan_answer F))

-- The buffer for the text has exactly this many bytes; the longest text, 24 lots and 300 rows, has 25,265

unfoldable pub room : ℕ
room = 25600

-- 2: a buffer of another length
unfoldable pub printed_answer : List ℕ → ℕ
printed_answer out = unless (eqb (length out) room) 2

-- how many bytes of the buffer are text
unfoldable pub printed_length : List ℕ → List ℕ → ℕ
printed_length F out = cond (eqb (length out) room) (length (plan_text F)) 0

-- the buffer afterwards: the text, and 0 behind it
unfoldable pub printed_buffer : List ℕ → List ℕ → List ℕ
printed_buffer F out = cond (eqb (length out) room) (padded room (plan_text F)) out

-- how many bytes printing answers are text: none where it refuses
abbrev pub text_length : Result ℕ Refusal → ℕ
text_length (Ok n) = n
text_length (Err r) = 0

-- printing the file F into the buffer `out` answers k with length r and leaves o
pub record Printed (F out : List ℕ) (k r : ℕ) (o : List ℕ) : Type 0 where
  pub answer : k ≡ printed_answer out
  pub count : r ≡ printed_length F out
  pub buffer : o ≡ printed_buffer F out
