-- Each row that check judges, the first wrong one, and each of its answers.
-- Assumes nothing.
use mathlib.Core.Path.{◌≡◌, refl, sym, ◌∙◌, ap, ap₂}
use mathlib.Core.Bool.{Bool, true, false, ◌&&◌}
use mathlib.Core.List.{List, [], ◌∷◌}
use Prim.Native.Nat.{ℕ, ◌+◌, ◌-◌, ◌*◌, ◌≤◌, ◌<◌}
use native.Mathlib.Omega.{arith}
use native.Mathlib.Decide.{dec_lt}
use lib.Dec.{eqb}
use lib.Pointwise.{pointwise}
use lib.ListN.{length, get_or, take, drop}
use borrow.Author.Tests.{eq-eqb, ne_eqb, not-true, not-false}
use Rattle.lex.specs.Every.{every}
use Rattle.lex.specs.Lists.{same}
use Rattle.lex.proofs.Every.{not_both, every_true, every_false}
use Rattle.lex.proofs.Scan.{Picked, scan_picked}
use Rattle.week.specs.Refusal.{unless}
use Rattle.week.specs.Tables.{Week, lots, pair_rules, admits, refusal}
use Rattle.week.specs.Rules.{keeps, keeps_half}
use Rattle.week.proofs.Tables.{accepted, accepted_keeps, admits_most, halts, runs_on, stops, stops_last, goes_on, goes_off}
use Rattle.repair.specs.Break.{breaks, lost_sets, row_at}
use Rattle.repair.specs.Repair.{case, mends_half, is_repair}
use Rattle.repair.specs.Service.{row_lengths}
use Rattle.repair.proofs.Mends.{mends_half_lem}
use Rattle.robust.specs.Super.{is_break}
use Rattle.solve.specs.Judging.{right, right_at, wrong_at, rows_of, first_wrong, check_answer, check_row, Judged}
use Rattle.robust.proofs.Rows.{set_fewer}
use Rattle.solve.proofs.Service.{Ready}

-- Lists that are one, as the code asks it
same_pointwise : (r s : List ℕ) → pointwise eqb r s ≡ same r s
unfolding same
same_pointwise [] [] = refl
same_pointwise [] (y ∷ s) = refl
same_pointwise (x ∷ r) [] = refl
same_pointwise (x ∷ r) (y ∷ s) = ap (λ (t : Bool). eqb x y && t) (same_pointwise r s)

-- One row

module _ (W : Week) (s A r : List ℕ) where
  pub right_whole : (t : Bool) → t ≡ pointwise eqb r s → breaks W.loss s A ≡ false → t ≡ right W s A r
  unfolding right is_break
  right_whole t g e = g ∙ same_pointwise r s ∙ rw e

  pub right_mended : refusal W ≡ 0 → length r ≡ lots W → breaks W.loss s A ≡ true → mends_half (pair_rules W) (case W.numbers W.give s A) r ≡ right W s A r
  unfolding right is_break is_repair
  right_mended fine size e = rw (e, eq-eqb (length r) (lots W) size) (sym (mends_half_lem (pair_rules W) (case W.numbers W.give s A) r (accepted W fine).symmetric size))

-- the row in turn: its set by its number, its part of the table
pub right_here : (W : Week) (s A table : List ℕ) (i : ℕ) (t : Bool) → refusal W ≡ 0 → i < rows_of W → A ≡ get_or (lost_sets (lots W) 2) i [] → t ≡ right W s A (take (i * lots W + lots W - i * lots W) (drop (i * lots W) table)) → t ≡ right_at W s table i
unfolding right_at row_at
right_here W s A table i t fine h f g = g ∙ ap₂ (right W s) (f ∙ sym (set_fewer (lots W) W.numbers.a i (accepted W fine).limits.breaks h)) (ap (λ (m : ℕ). take m (drop (i * lots W) table)) part)
  where
    part : i * lots W + lots W - i * lots W ≡ lots W
    part = omega arith

-- All rows

module _ (W : Week) (s table : List ℕ) where
  picked : Picked (rows_of W) (wrong_at W s table) 0 (first_wrong W s table)
  unfolding first_wrong
  picked = scan_picked (rows_of W) (wrong_at W s table) 0 (omega arith)

  -- the first wrong row is wrong, and those before it are right
  pub first_wrong_lem : first_wrong W s table < rows_of W → right_at W s table (first_wrong W s table) ≡ false
  unfolding wrong_at
  first_wrong_lem h = not-true _ (picked.hit h)

  pub first_before : (i : ℕ) → i < first_wrong W s table → right_at W s table i ≡ true
  unfolding wrong_at
  first_before i h = not-false _ (picked.miss i (omega arith) h)

  -- no other row is so
  pub first_only : (i : ℕ) → i < rows_of W → right_at W s table i ≡ false → ((j : ℕ) → j < i → right_at W s table j ≡ true) → first_wrong W s table ≡ i
  first_only i l e h = elim (dec_lt i (first_wrong W s table)) [
    | yes m ↦ absurd (not_both (first_before i m) e)
    | no m ↦ elim (dec_lt (first_wrong W s table) i) [
      | yes k ↦ absurd (not_both (h (first_wrong W s table) k) (first_wrong_lem (omega arith)))
      | no k ↦ omega arith
    ]
  ]

  pub first_none : ((j : ℕ) → j < rows_of W → right_at W s table j ≡ true) → first_wrong W s table ≡ rows_of W
  first_none h = elim (dec_lt (first_wrong W s table) (rows_of W)) [
    | yes l ↦ absurd (not_both (h (first_wrong W s table) l) (first_wrong_lem l))
    | no l ↦ let m = picked.high in omega arith
  ]

  -- some row is wrong exactly if the first wrong one is a row
  pub wrong_some : first_wrong W s table < rows_of W → every (right_at W s table) (rows_of W) ≡ false
  wrong_some h = every_false (right_at W s table) (rows_of W) (first_wrong W s table) h (first_wrong_lem h)

  pub wrong_none : rows_of W ≤ first_wrong W s table → every (right_at W s table) (rows_of W) ≡ true
  wrong_none h = every_true (right_at W s table) (rows_of W) (λ i l. first_before i (omega arith))

  pub some_wrong : every (right_at W s table) (rows_of W) ≡ false → first_wrong W s table < rows_of W
  some_wrong e = elim (dec_lt (first_wrong W s table) (rows_of W)) [
    | yes h ↦ h
    | no h ↦ absurd (not_both (wrong_none (omega arith)) e)
  ]

  -- Each answer, from what the code knows where it gives it

  abbrev two : Bool
  two = row_lengths (lots W) W.numbers.a s table

  -- with every answer but 7 the row number is 0
  other : (k : ℕ) → k ≡ check_answer W s table → (k ≡ 7 → ⊥) → Judged W s table k 0
  unfolding check_row
  other k e h = record { answer = e; row = rw (ne_eqb (check_answer W s table) 7 (λ z. h (e ∙ z))) }

  pub by_tables : (k : ℕ) → k ≡ admits true two W → (k ≡ 0 → ⊥) → Judged W s table k 0
  unfolding check_answer
  by_tables k e h = other k (halts (admits true two W) _ e h) (λ z. let m = admits_most true two W in omega arith)

  -- the refusals 1 to 4 name no row
  pub told_tables : (k : ℕ) → k ≡ admits true two W → k ≡ 7 → ⊥
  told_tables k e z = let m = admits_most true two W in omega arith

  module _ (known : Ready W s table) where
    kept : keeps (pair_rules W) s ≡ keeps_half (pair_rules W) s
    kept = accepted_keeps W (accepted W known.fine) s (let n = known.size in omega arith)

    pub by_order : keeps_half (pair_rules W) s ≡ false → Judged W s table 6 0
    unfolding check_answer
    by_order e = other 6 (runs_on (admits true two W) _ known.admitted (stops (keeps (pair_rules W) s) 6 _ (kept ∙ e) (λ z. omega arith))) (λ z. omega arith)

    module _ (keep : keeps_half (pair_rules W) s ≡ true) where
      behind : (k : ℕ) → k ≡ unless (every (right_at W s table) (rows_of W)) 7 → k ≡ check_answer W s table
      unfolding check_answer
      behind k e = runs_on (admits true two W) _ known.admitted (goes_on (keeps (pair_rules W) s) 6 _ (kept ∙ keep) e)

      pub by_row : (i : ℕ) → i < rows_of W → first_wrong W s table ≡ i → Judged W s table 7 i
      unfolding check_row
      by_row i h e =
          let k = behind 7 (stops_last (every (right_at W s table) (rows_of W)) 7 (wrong_some (omega arith))) in
          record { answer = k; row = sym e ∙ rw (eq-eqb (check_answer W s table) 7 (sym k)) }

      pub by_rows : first_wrong W s table ≡ rows_of W → Judged W s table 0 0
      by_rows e = other 0 (behind 0 (goes_off (every (right_at W s table) (rows_of W)) 7 (wrong_none (omega arith)))) (λ z. omega arith)
