-- Demand 1: every call is answered by its result or by one of its refusals, each exactly when document 01's checks say so, and a refused
-- call leaves what was lent as it was. That every call ends is the contracts' part: none has a `requires`.
-- Assumes nothing.
use mathlib.Core.Path.{◌≡◌, refl, sym, ◌∙◌, ap, ap₂, subst}
use mathlib.Core.Bool.{Bool, true, false, ◌&&◌, not, cond}
use mathlib.Core.List.{List, [], ◌∷◌, ◌++◌}
use Prim.Native.Nat.{ℕ, zero, suc, ◌+◌, ◌*◌, ◌/◌}
use native.Mathlib.Omega.{arith}
use lib.Dec.{eqb, ltb, leb}
use lib.ListN.{length, take, drop}
use borrow.Author.Tests.{ne_eqb, not-true}
use Rattle.lex.specs.Every.{every, every_of, some_of}
use Rattle.lex.specs.First.{is_found}
use Rattle.lex.proofs.Every.{both, and_left, and_right, every_of_append, every_of_imp}
use Rattle.week.specs.Refusal.{unless, or_else}
use Rattle.week.specs.Rules.{keeps}
use Rattle.week.specs.Tables.{Week, lots, pair_rules, numbers_ok, lengths_ok, words_ok, ties_ok, admits}
use Rattle.repair.specs.Break.{lost_ok}
use Rattle.repair.specs.Repair.{case, repair_of}
use Rattle.repair.specs.Service.{repair_lengths, repair_answer, repair_out, row_numbers, row_lengths, row_answer, row_part}
use Rattle.robust.specs.Super.{first_super}
use Rattle.solve.specs.Service.{solve_answer, solve_order, solve_table}
use Rattle.solve.specs.Judging.{right_at, rows_of, first_wrong, check_answer, check_row}
use Rattle.sheet.specs.declared.Sheet.{Sheet}
use Rattle.sheet.specs.Sheet.{zeros, blank, sound, result_ok, open_answer, opened, copy_answer, copied, save_answer, saved}
use Rattle.sheet.specs.Moves.{moves_of, moves_ok, fresh}
use Rattle.block.specs.Fnv.{fnv}
use Rattle.block.specs.File.{blocks, write_refusal, write_of, written, file_of}
use Rattle.block.specs.Reading.{given, no_numbers, week_in, buffers_ok, whole_blocks, holds4, filling_ok, block_refusal, blocks_refusal, held_refusal, file_refusal, read_refusal, read_of}
use Rattle.block.proofs.Services.{write_answer, read_answer}
use Rattle.demands.specs.Calls.{Among, Answered, solve_refusals, check_refusals, repair_refusals, row_refusals, open_refusals, copy_refusals, save_refusals, write_refusals, read_refusals}
use Rattle.demands.specs.Checks.{Check, check, verdict, Exactly, week_checks, solve_checks, check_checks, repair_checks, row_checks, open_checks, copy_checks, save_checks, write_checks, block_checks, held_checks, read_checks}
use Rattle.demands.proofs.Verdict.{is_numbered, verdict_exactly, verdict_append}

-- What a refused call leaves
kept : {A : Type 0} (k : ℕ) (x y : A) → (k ≡ 0 → ⊥) → cond (eqb k 0) x y ≡ y
kept k x y h = ap (λ (t : Bool). cond t x y) (ne_eqb k 0 h)

-- An answer and its checks

abbrev pub is_refusal : List ℕ → ℕ → Bool
is_refusal l k = not (eqb k 0) && some_of (eqb k) l

abbrev pub is_listed : List ℕ → Check → Bool
is_listed l x = is_refusal l x.number

-- the answer k is the verdict of the checks c, whose numbers are among the refusals l
pub record Told (l : List ℕ) (c : List Check) (k : ℕ) : Type 0 where
  pub says : k ≡ verdict c
  pub listed : every_of (is_listed l) c ≡ true

module _ {l : List ℕ} {c : List Check} {k : ℕ} (t : Told l c k) where
  told_numbered : every_of is_numbered c ≡ true
  told_numbered = every_of_imp (is_listed l) is_numbered c (λ x e. and_left (is_numbered x) (some_of (eqb x.number) l) e) t.listed

  told_exactly : Exactly c k
  told_exactly = verdict_exactly c k told_numbered t.says

verdict_among : (l : List ℕ) (c : List Check) → every_of (is_listed l) c ≡ true → Among l (verdict c)
unfolding every_of some_of verdict
verdict_among l [] e = record { is = refl }
verdict_among l (x ∷ c) e = go (verdict_among l c (and_right (is_listed l x) (every_of (is_listed l) c) e)) x.passes
  where
    here : is_listed l x ≡ true → some_of (eqb x.number) (0 ∷ l) ≡ true
    here f = rw (not-true (eqb x.number 0) (and_left (is_numbered x) (some_of (eqb x.number) l) f)) (and_right (is_numbered x) (some_of (eqb x.number) l) f)

    go : Among l (verdict c) → (t : Bool) → Among l (cond t (verdict c) x.number)
    go rest true = rest
    go rest false = record { is = here (and_left (is_listed l x) (every_of (is_listed l) c) e) }

told_among : {l : List ℕ} {c : List Check} {k : ℕ} → Told l c k → Among l k
told_among {l} {c} t = subst (Among l) (sym t.says) (verdict_among l c t.listed)

-- A chain of checks, link by link

chain : {l : List ℕ} {c d : List Check} {a b : ℕ} → Told l c a → Told l d b → Told l (c ++ d) (or_else a b)
chain {l} {c} {d} s t = record {
  says = ap₂ (λ (x y : ℕ). or_else x y) s.says t.says ∙ verdict_append c d (told_numbered s);
  listed = every_of_append (is_listed l) c d ∙ both s.listed t.listed;
}

module _ (l : List ℕ) where
  pub link : (ok : Bool) (k : ℕ) → is_refusal l k ≡ true → Told l (check k ok ∷ []) (unless ok k)
  unfolding every_of verdict
  link ok k h = record { says = refl; listed = both h refl }

  pub admitted : (one two : Bool) (W : Week) → is_refusal l 1 ≡ true → is_refusal l 2 ≡ true → is_refusal l 3 ≡ true → is_refusal l 4 ≡ true → Told l (week_checks one two W) (admits one two W)
  unfolding admits week_checks
  admitted one two W h1 h2 h3 h4 =
      chain (link (one && numbers_ok W.numbers) 1 h1)
      (chain (link (two && lengths_ok (lots W) W.domain W.loss W.give W.ties) 2 h2)
      (chain (link (words_ok (lots W) W.domain W.loss W.give) 3 h3)
      (link (ties_ok (pair_rules W)) 4 h4)))

-- a chain that answers j, which is no answer of its first part, passed that part
pub passes_over : {c : List Check} (l : List ℕ) (a b j : ℕ) → Told l c a → (Among l j → ⊥) → or_else a b ≡ j → (a ≡ 0) × (b ≡ j)
passes_over l zero b j t h e = (refl, e)
passes_over l (suc a) b j t h e = absurd (h (subst (Among l) (sym (ap (λ (x : Bool). cond x b (suc a)) (ne_eqb (suc a) 0 (λ z. omega arith))) ∙ e) (told_among t)))

-- Planning

module _ (W : Week) (order table : List ℕ) where
  solve_told : Told solve_refusals (solve_checks W order table) (solve_answer W order table)
  unfolding some_of solve_refusals solve_checks solve_answer
  solve_told = chain (admitted solve_refusals true (row_lengths (lots W) W.numbers.a order table) W refl refl refl refl) (link solve_refusals (is_found (first_super W)) 5 refl)

  pub solve_exactly : Exactly (solve_checks W order table) (solve_answer W order table)
  solve_exactly = told_exactly solve_told

  pub solve_answered : Answered solve_refusals (solve_answer W order table) {A = List ℕ × List ℕ} (order, table) (solve_order W order table, solve_table W order table)
  unfolding solve_order solve_table
  solve_answered = record { numbered = told_among solve_told; unchanged = λ h. ap₂ (λ (s t : List ℕ). (s, t)) (kept _ _ _ h) (kept _ _ _ h) }

module _ (W : Week) (s table : List ℕ) where
  check_told : Told check_refusals (check_checks W s table) (check_answer W s table)
  unfolding some_of check_refusals check_checks check_answer
  check_told =
      chain (admitted check_refusals true (row_lengths (lots W) W.numbers.a s table) W refl refl refl refl)
      (chain (link check_refusals (keeps (pair_rules W) s) 6 refl)
      (link check_refusals (every (right_at W s table) (rows_of W)) 7 refl))

  pub check_exactly : Exactly (check_checks W s table) (check_answer W s table)
  check_exactly = told_exactly check_told

  -- nothing is lent to check that it could change
  pub check_answered : Among check_refusals (check_answer W s table)
  check_answered = told_among check_told

  -- its row number is 0 with every answer but 7
  pub check_no_row : (check_answer W s table ≡ 7 → ⊥) → check_row W s table ≡ 0
  unfolding check_row
  check_no_row h = ap (λ (t : Bool). cond t (first_wrong W s table) 0) (ne_eqb (check_answer W s table) 7 h)

module _ (W : Week) (s A out : List ℕ) where
  repair_told : Told repair_refusals (repair_checks W s A out) (repair_answer W s A out)
  unfolding some_of repair_refusals repair_checks repair_answer
  repair_told =
      chain (admitted repair_refusals (lost_ok (lots W) 1 2 A) (repair_lengths (lots W) s out) W refl refl refl refl)
      (chain (link repair_refusals (keeps (pair_rules W) s) 6 refl)
      (link repair_refusals (is_found (repair_of (pair_rules W) (case W.numbers W.give s A))) 8 refl))

  pub repair_exactly : Exactly (repair_checks W s A out) (repair_answer W s A out)
  repair_exactly = told_exactly repair_told

  pub repair_answered : Answered repair_refusals (repair_answer W s A out) out (repair_out W s A out)
  unfolding repair_out
  repair_answered = record { numbered = told_among repair_told; unchanged = λ h. kept _ _ _ h }

module _ (n a : ℕ) (order table A : List ℕ) where
  row_told : Told row_refusals (row_checks n a order table A) (row_answer n a order table A)
  unfolding some_of row_refusals row_checks row_answer
  row_told = chain (link row_refusals (row_numbers n a && lost_ok n 0 a A) 1 refl) (link row_refusals (row_lengths n a order table) 2 refl)

  pub row_exactly : Exactly (row_checks n a order table A) (row_answer n a order table A)
  row_exactly = told_exactly row_told

  -- refused, row shows nothing
  pub row_answered : Answered row_refusals (row_answer n a order table A) [] (row_part n a order table A)
  unfolding row_part
  row_answered = record { numbered = told_among row_told; unchanged = λ h. kept _ _ _ h }

-- The sheet

module _ (W : Week) (o : List ℕ) where
  open_told : Told open_refusals (open_checks W o) (opened W o).answer
  unfolding some_of open_refusals open_checks open_answer opened
  open_told = chain (admitted open_refusals true (eqb (length o) (lots W)) W refl refl refl refl) (link open_refusals (keeps (pair_rules W) o) 6 refl)

  pub open_exactly : Exactly (open_checks W o) (opened W o).answer
  open_exactly = told_exactly open_told

  -- refused, open gives a sheet of zeros
  pub open_answered : Answered open_refusals (opened W o).answer blank (opened W o).sheet
  unfolding opened
  open_answered = record { numbered = told_among open_told; unchanged = λ h. kept _ _ _ h }

module _ (W : Week) (S : Sheet) where
  copy_told : Told copy_refusals (copy_checks W S) (copied W S).answer
  unfolding some_of copy_refusals copy_checks copy_answer copied
  copy_told = chain (admitted copy_refusals true true W refl refl refl refl) (link copy_refusals (sound (pair_rules W) S) 9 refl)

  pub copy_exactly : Exactly (copy_checks W S) (copied W S).answer
  copy_exactly = told_exactly copy_told

  -- refused, copy gives zeros
  pub copy_answered : Answered copy_refusals (copied W S).answer {A = List ℕ × ℕ} (zeros, 0) ((copied W S).order, (copied W S).copy)
  unfolding copied
  copy_answered = record { numbered = told_among copy_told; unchanged = λ h. ap₂ (λ (s : List ℕ) (c : ℕ). (s, c)) (kept _ _ _ h) (kept _ _ _ h) }

module _ (W : Week) (S : Sheet) (c : ℕ) (m : List ℕ) where
  save_told : Told save_refusals (save_checks W S c m) (saved W S c m).answer
  unfolding some_of save_refusals save_checks save_answer saved
  save_told =
      chain (admitted save_refusals true true W refl refl refl refl)
      (chain (link save_refusals (sound (pair_rules W) S) 9 refl)
      (chain (link save_refusals (leb c S.saves) 10 refl)
      (chain (link save_refusals (moves_ok (lots W) W.domain m) 11 refl)
      (chain (link save_refusals (fresh (pair_rules W) S.marks c (moves_of m)) 12 refl)
      (chain (link save_refusals (result_ok (pair_rules W) S.order m) 13 refl)
      (link save_refusals (ltb S.saves 65535) 14 refl))))))

  pub save_exactly : Exactly (save_checks W S c m) (saved W S c m).answer
  save_exactly = told_exactly save_told

  pub save_answered : Answered save_refusals (saved W S c m).answer S (saved W S c m).sheet
  unfolding saved
  save_answered = record { numbered = told_among save_told; unchanged = λ h. kept _ _ _ h }

-- The block file

module _ (W : Week) (F : List ℕ) where
  write_told : Told write_refusals (write_checks W F) (write_of W F).answer
  unfolding some_of write_refusals write_checks write_refusal
  write_told = rw (write_answer W F) (admitted write_refusals true (eqb (length F) (blocks (lots W) * 512)) W refl refl refl refl)

  pub write_exactly : Exactly (write_checks W F) (write_of W F).answer
  write_exactly = told_exactly write_told

  pub write_answered : Answered write_refusals (write_of W F).answer F (write_of W F).file
  unfolding write_of
  write_answered = record {
    numbered = told_among write_told;
    unchanged = λ h. ap (λ (t : Bool). (cond t (written 0 (file_of W)) (written (write_refusal W F) F)).file) (ne_eqb (write_refusal W F) 0 (λ z. h (write_answer W F ∙ z)));
  }

blocks_told : (F : List ℕ) (m : ℕ) → Told read_refusals (block_checks F m) (blocks_refusal F m)
unfolding every_of some_of read_refusals verdict block_checks block_refusal blocks_refusal
blocks_told F zero = record { says = refl; listed = refl }
blocks_told F (suc m) =
    chain (blocks_told F m)
    (chain (link read_refusals (holds4 F (m * 512 + 508) (fnv (take 508 (drop (m * 512) F)))) 16 refl)
    (link read_refusals (holds4 F (m * 512) m) 17 refl))

held_told : (W : Week) (F : List ℕ) → Told read_refusals (held_checks W F) (held_refusal W F)
unfolding some_of read_refusals held_checks held_refusal
held_told W F =
    chain (link read_refusals (numbers_ok W.numbers) 1 refl)
    (chain (link read_refusals (eqb (length F) (blocks (lots W) * 512)) 15 refl)
    (chain (link read_refusals (filling_ok F (lots W)) 18 refl)
    (chain (link read_refusals (words_ok (lots W) W.domain W.loss W.give) 3 refl)
    (link read_refusals (ties_ok (pair_rules W)) 4 refl))))

module _ (F d l g t : List ℕ) where
  read_told : Told read_refusals (read_checks F d l g t) (read_of F d l g t).answer
  unfolding some_of read_refusals read_checks file_refusal read_refusal
  read_told = rw (read_answer F d l g t)
      (chain (link read_refusals (buffers_ok (length d) (length l) (length g) (length t)) 2 refl)
      (chain (link read_refusals (whole_blocks F) 15 refl)
      (chain (blocks_told F (length F / 512))
      (held_told (week_in F) F))))

  pub read_exactly : Exactly (read_checks F d l g t) (read_of F d l g t).answer
  read_exactly = told_exactly read_told

  -- refused, read leaves its buffers and gives numbers of 0
  pub read_answered : let r = read_of F d l g t in Answered read_refusals r.answer (given r.answer no_numbers d l g t) r
  unfolding read_of
  read_answered = record {
    numbered = told_among read_told;
    unchanged = λ h. kept (read_refusal F d l g t) _ _ (λ z. h (read_answer F d l g t ∙ z)) ∙ ap (λ (k : ℕ). given k no_numbers d l g t) (sym (read_answer F d l g t));
  }
