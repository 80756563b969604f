-- The sheet: what open, copy and save answer and give, for every sheet, week, copy number and moves.
-- Assumes nothing.
use Rattle.std.specs.Prelude.{◌≡◌, Bool, true, ◌&&◌, cond, List, [], ◌∷◌, ℕ, ◌+◌, ◌≤◌, eqb, ltb, leb, length, get_or, take, replicate, Result, Ok, Err}
use Rattle.lex.specs.Every.{all, every, every_of}
use Rattle.lex.specs.Lists.{padded}
use Rattle.week.specs.declared.Refusal.{Refusal}
use Rattle.week.specs.Refusal.{unless, or_else, number}
use Rattle.week.specs.Rules.{Rules, keeps}
use Rattle.week.specs.Tables.{Week, lots, pair_rules, refusal, admits, ties_ok}
use Rattle.sheet.specs.declared.Sheet.{Sheet}
use Rattle.sheet.specs.declared.Opened.{Opened}
use Rattle.sheet.specs.declared.Copied.{Copied}
use Rattle.sheet.specs.declared.DeskCopy.{DeskCopy}
use Rattle.sheet.specs.Moves.{moves_of, moves_ok, fresh, stirs, placed_all, marked_all}

unfoldable pub zeros : List ℕ
zeros = replicate 24 0

-- what comes back where open is refused
unfoldable pub blank : Sheet
blank = record { n = 0; order = zeros; saves = 0; marks = zeros }

-- the rules of a week that is not refused: what the code's half of the pairs needs
abbrev pub Lawful : Rules → Type 0
Lawful R = (R.lots ≤ 24) × (ties_ok R ≡ true)

-- the first places of an order of 24, those of the week's lots, keep the rules
unfoldable pub stands : Rules → List ℕ → Bool
stands R s = keeps R (take R.lots s)

-- Open

unfoldable pub open_answer : Week → List ℕ → ℕ
open_answer W o = or_else (admits true (eqb (length o) (lots W)) W) (unless (keeps (pair_rules W) o) 6)

unfoldable pub new_sheet : ℕ → List ℕ → Sheet
new_sheet n o = record { n = n; order = padded 24 (take n o); saves = 0; marks = zeros }

unfoldable pub opened : Week → List ℕ → Opened
opened W o = record { answer = open_answer W o; sheet = cond (eqb (open_answer W o) 0) (new_sheet (lots W) o) blank }

-- the same from what the code gives: with a refusal comes a blank sheet
abbrev pub opened_of : Result Sheet Refusal → Opened
opened_of (Ok S) = record { answer = 0; sheet = S }
opened_of (Err r) = record { answer = number r; sheet = blank }

-- Copy

-- 9: a lot's mark is not above the save number
unfoldable pub mark_ok : ℕ → List ℕ → ℕ → Bool
mark_ok saves marks p = leb (get_or marks p 0) saves

unfoldable pub sound_marks : ℕ → ℕ → List ℕ → Bool
sound_marks n saves marks = every (mark_ok saves marks) n

-- 9
abbrev pub sound_tests : Rules → Sheet → List Bool
sound_tests R S =
    eqb S.n R.lots
    ∷ leb S.saves 65535
    ∷ stands R S.order
    ∷ sound_marks R.lots S.saves S.marks
    ∷ []

unfoldable pub sound : Rules → Sheet → Bool
sound R S = all (sound_tests R S)

unfoldable pub copy_answer : Week → Sheet → ℕ
copy_answer W S = or_else (refusal W) (unless (sound (pair_rules W) S) 9)

unfoldable pub copied : Week → Sheet → Copied
copied W S = record {
  answer = copy_answer W S;
  copy = cond (eqb (copy_answer W S) 0) S.saves 0;
  order = cond (eqb (copy_answer W S) 0) (padded 24 (take (lots W) S.order)) zeros;
}

-- the same from what the code gives: with a refusal come zeros
abbrev pub copied_of : Result DeskCopy Refusal → Copied
copied_of (Ok c) = record { answer = 0; copy = c.number; order = c.order }
copied_of (Err r) = record { answer = number r; copy = 0; order = zeros }

-- Save

-- 13: every move is to another slot, and the result keeps the rules
unfoldable pub result_ok : Rules → List ℕ → List ℕ → Bool
result_ok R s m = every_of (stirs s) (moves_of m) && stands R (placed_all (moves_of m) s)

unfoldable pub save_answer : Week → Sheet → ℕ → List ℕ → ℕ
save_answer W S c m =
    or_else (refusal W)
    (or_else (unless (sound (pair_rules W) S) 9)
    (or_else (unless (leb c S.saves) 10)
    (or_else (unless (moves_ok (lots W) W.domain m) 11)
    (or_else (unless (fresh (pair_rules W) S.marks c (moves_of m)) 12)
    (or_else (unless (result_ok (pair_rules W) S.order m) 13)
    (unless (ltb S.saves 65535) 14))))))

-- the sheet after an accepted save
unfoldable pub with_moves : Sheet → List ℕ → Sheet
with_moves S m = record {
  n = S.n;
  order = placed_all (moves_of m) S.order;
  saves = S.saves + 1;
  marks = marked_all (S.saves + 1) (moves_of m) S.marks;
}

-- an answer, and the sheet that it leaves
pub record Saved : Type 0 where
  pub answer : ℕ
  pub sheet : Sheet

abbrev pub left : ℕ → Sheet → Saved
left k S = record { answer = k; sheet = S }

unfoldable pub saved : Week → Sheet → ℕ → List ℕ → Saved
saved W S c m = left (save_answer W S c m) (cond (eqb (save_answer W S c m) 0) (with_moves S m) S)

-- the same from what the code gives by value: a refusal leaves sheet S
abbrev pub saved_of : Sheet → Result Sheet Refusal → Saved
saved_of S (Ok T) = left 0 T
saved_of S (Err r) = left (number r) S
