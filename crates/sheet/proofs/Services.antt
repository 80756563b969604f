-- Laws of open, copy and save: padding an order, a sound sheet, and each service's answer and values from its checks.
-- Assumes nothing.
use mathlib.Core.Path.{◌≡◌, refl, sym, ◌∙◌, ap}
use mathlib.Core.Bool.{Bool, true, false, cond}
use mathlib.Core.List.{List, ◌++◌}
use Prim.Native.Nat.{ℕ, zero, suc, ◌≤◌, ◌<◌}
use native.Mathlib.Omega.{arith}
use native.Mathlib.Nat.{min-le_left}
use lib.Dec.{eqb, ltb, leb}
use lib.ListN.{length, take, drop, replicate, length-take}
use lib.Seq.{length-take-le, take_all}
use borrow.Author.Tests.{leb-true, le-leb, lt-ltb, ltb-true, le-ltb, eqb-true, eq-eqb, ne_eqb}
use Rattle.std.specs.Prelude.{Ok, Err}
use Rattle.std.proofs.lemmas.List.{drop-replicate}
use Rattle.lex.specs.Lists.{padded}
use Rattle.lex.proofs.Every.{each, each_all}
use Rattle.week.specs.declared.Refusal.{Refusal}
use Rattle.week.specs.Refusal.{unless, or_else, number}
use Rattle.week.specs.Rules.{Rules, keeps, keeps_half}
use Rattle.week.specs.Tables.{Week, lots, pair_rules, refusal, admits, joined, numbers_ok, lengths_ok, words_ok, ties_ok}
use Rattle.week.proofs.Standing.{keeps_half_lem}
use Rattle.week.proofs.Tables.{stops, goes_on, stops_last, goes_off, passed_first, passed_rest, passed_last, joined_admits, ties_symmetric, halts, runs_on, zero_first, zero_rest, accepted}
use Rattle.sheet.specs.declared.Sheet.{Sheet}
use Rattle.sheet.specs.declared.Opened.{Opened}
use Rattle.sheet.specs.Moves.{moves_of, moves_ok, fresh}
use Rattle.sheet.specs.Sheet.{Lawful, zeros, blank, stands, open_answer, new_sheet, opened, opened_of, sound_marks, sound_tests, sound, copy_answer, result_ok, save_answer}
use Rattle.week.proofs.Numbered.{number_some}

-- Padding

pub pad_copied : (n : ℕ) (o x : List ℕ) → n ≤ 24 → n ≤ length o → x ≡ take n o → x ++ drop n (replicate 24 0) ≡ padded 24 (take n o)
unfolding padded
pad_copied n o x few long e = rw (e, drop-replicate {X = ℕ} n 24 0, length-take-le n o long)

-- What the tables of a week that is not refused say

pub ties_pass : (W : Week) → refusal W ≡ 0 → ties_ok (pair_rules W) ≡ true
unfolding admits
ties_pass W e =
    let r2 = passed_rest (numbers_ok W.numbers) 1 _ (λ z. omega arith) e in
    let r3 = passed_rest (lengths_ok (lots W) W.domain W.loss W.give W.ties) 2 _ (λ z. omega arith) r2 in
    let r4 = passed_rest (words_ok (lots W) W.domain W.loss W.give) 3 _ (λ z. omega arith) r3 in
    passed_last (ties_ok (pair_rules W)) 4 (λ z. omega arith) r4

pub few_lots : (W : Week) → refusal W ≡ 0 → lots W ≤ 24
few_lots W e = (accepted W e).limits.few

-- the rules of a week that is not refused
pub lawful : (W : Week) (R : Rules) → R ≡ pair_rules W → 0 ≡ refusal W → Lawful R
lawful W R same w = rw same (few_lots W (sym w), ties_pass W (sym w))

pub joined_none : (two : Bool) (j : ℕ) → joined true two j ≡ 0 → (two ≡ true) × (j ≡ 0)
unfolding joined
joined_none true zero e = (refl, refl)
joined_none false zero e = absurd (omega arith)
joined_none two (suc zero) e = absurd (omega arith)
joined_none true (suc (suc j)) e = let z : suc (suc j) ≡ 0 = sym (rw (ne_eqb (suc (suc j)) 1 (λ z. omega arith))) ∙ e in absurd (omega arith)
joined_none false (suc (suc j)) e = let z : ◌≡◌ {A = ℕ} 2 0 = sym (rw (ne_eqb (suc (suc j)) 1 (λ z. omega arith))) ∙ e in absurd (omega arith)

-- the code's half of the pairs decides whether the lots stand
pub stands_half : (R : Rules) (s : List ℕ) → ties_ok R ≡ true → keeps_half R (take R.lots s) ≡ stands R s
unfolding stands
stands_half R s e = sym (keeps_half_lem R (ties_symmetric R e) (take R.lots s) (rw length-take (min-le_left _ _)))

-- 9

pub record Sound (R : Rules) (S : Sheet) : Type 0 where
  pub lots : S.n ≡ R.lots
  pub count : S.saves ≤ 65535
  pub order : stands R S.order ≡ true
  pub marks : sound_marks R.lots S.saves S.marks ≡ true

module _ (R : Rules) (S : Sheet) where
  pub sound_read : sound R S ≡ true → Sound R S
  unfolding sound
  sound_read e =
      let t = each (sound_tests R S) e in
      record { lots = eqb-true S.n R.lots t.0; count = leb-true S.saves 65535 t.1.0; order = t.1.1.0; marks = t.1.1.1.0 }

  pub sound_good : Sound R S → true ≡ sound R S
  unfolding sound
  sound_good t = sym (each_all (sound_tests R S) (eq-eqb _ _ t.lots, (le-leb _ _ t.count, (t.order, (t.marks, tt)))))

-- Open

module _ (W : Week) (o : List ℕ) {j k : ℕ} (judge : j ≡ refusal W) (join : k ≡ joined true (eqb (length o) (lots W)) j) where
  abbrev sized : Bool
  sized = eqb (length o) (lots W)

  open_judged : k ≡ admits true sized W
  open_judged = join ∙ (ap (joined true sized) judge ∙ joined_admits true sized W)

  pub open_early : (k ≡ 0 → ⊥) → k ≡ open_answer W o
  unfolding open_answer
  open_early h = halts (admits true sized W) (unless (keeps (pair_rules W) o) 6) open_judged h

  module _ (z : k ≡ 0) where
    pub open_week : refusal W ≡ 0
    open_week = sym judge ∙ (joined_none sized j (sym join ∙ z)).1

    pub open_length : length o ≡ lots W
    open_length = eqb-true (length o) (lots W) (joined_none sized j (sym join ∙ z)).0

    open_stands : stands (pair_rules W) o ≡ keeps (pair_rules W) o
    unfolding stands
    open_stands = ap (keeps (pair_rules W)) (take_all (lots W) o (let e = open_length in omega arith))

    pub open_six : stands (pair_rules W) o ≡ false → 6 ≡ open_answer W o
    unfolding open_answer
    open_six e = runs_on (admits true sized W) (unless (keeps (pair_rules W) o) 6) (sym open_judged ∙ z) (stops_last (keeps (pair_rules W) o) 6 (sym open_stands ∙ e))

    pub open_none : stands (pair_rules W) o ≡ true → 0 ≡ open_answer W o
    unfolding open_answer
    open_none e = runs_on (admits true sized W) (unless (keeps (pair_rules W) o) 6) (sym open_judged ∙ z) (goes_off (keeps (pair_rules W) o) 6 (sym open_stands ∙ e))

pub new_sheet_lem : (n : ℕ) (o s : List ℕ) → s ≡ padded 24 (take n o) → ◌≡◌ {A = Sheet} (record { n = n; order = s; saves = 0; marks = zeros }) (new_sheet n o)
unfolding new_sheet
new_sheet_lem n o s e = ap (λ (l : List ℕ). record { n = n; order = l; saves = 0; marks = zeros }) e

-- a blank sheet with the week's number of lots and its order
pub blank_sheet_lem : (n : ℕ) (o s : List ℕ) (S : Sheet) → S ≡ blank → s ≡ padded 24 (take n o) → ◌≡◌ {A = Sheet} (record { n = n; order = s; saves = S.saves; marks = S.marks }) (new_sheet n o)
unfolding blank
blank_sheet_lem n o s S b e = rw b (new_sheet_lem n o s e)

-- Copy

module _ (W : Week) (S : Sheet) {j : ℕ} (judge : j ≡ refusal W) where
  abbrev tail : ℕ
  tail = unless (sound (pair_rules W) S) 9

  pub copy_early : (j ≡ 0 → ⊥) → j ≡ copy_answer W S
  unfolding copy_answer
  copy_early h = halts (refusal W) tail judge h

  pub copy_none : j ≡ 0 → sound (pair_rules W) S ≡ true → 0 ≡ copy_answer W S
  unfolding copy_answer
  copy_none z e = runs_on (refusal W) tail (sym judge ∙ z) (goes_off (sound (pair_rules W) S) 9 e)

-- Save: each refusal after the checks before it have passed

module _ (W : Week) (S : Sheet) (c : ℕ) (m : List ℕ) where
  abbrev R : Rules
  R = pair_rules W

  abbrev from_14 : ℕ
  from_14 = unless (ltb S.saves 65535) 14

  abbrev from_13 : ℕ
  from_13 = or_else (unless (result_ok R S.order m) 13) from_14

  abbrev from_12 : ℕ
  from_12 = or_else (unless (fresh R S.marks c (moves_of m)) 12) from_13

  abbrev from_11 : ℕ
  from_11 = or_else (unless (moves_ok (lots W) W.domain m) 11) from_12

  abbrev from_10 : ℕ
  from_10 = or_else (unless (leb c S.saves) 10) from_11

  abbrev from_9 : ℕ
  from_9 = or_else (unless (sound R S) 9) from_10

  pub save_early : {j : ℕ} → j ≡ refusal W → (j ≡ 0 → ⊥) → j ≡ save_answer W S c m
  unfolding save_answer
  save_early e h = halts (refusal W) from_9 e h

  module _ (w : refusal W ≡ 0) where
    to_9 : {x : ℕ} → x ≡ from_9 → x ≡ save_answer W S c m
    unfolding save_answer
    to_9 e = runs_on (refusal W) from_9 w e

    module _ (s : sound R S ≡ true) where
      to_10 : {x : ℕ} → x ≡ from_10 → x ≡ save_answer W S c m
      to_10 e = to_9 (goes_on (sound R S) 9 from_10 s e)

      module _ (k : c ≤ S.saves) where
        to_11 : {x : ℕ} → x ≡ from_11 → x ≡ save_answer W S c m
        to_11 e = to_10 (goes_on (leb c S.saves) 10 from_11 (le-leb c S.saves k) e)

        pub save_11 : moves_ok (lots W) W.domain m ≡ false → 11 ≡ save_answer W S c m
        save_11 e = to_11 (stops (moves_ok (lots W) W.domain m) 11 from_12 e (λ z. omega arith))

        module _ (t : moves_ok (lots W) W.domain m ≡ true) where
          to_12 : {x : ℕ} → x ≡ from_12 → x ≡ save_answer W S c m
          to_12 e = to_11 (goes_on (moves_ok (lots W) W.domain m) 11 from_12 t e)

          pub save_12 : fresh R S.marks c (moves_of m) ≡ false → 12 ≡ save_answer W S c m
          save_12 e = to_12 (stops (fresh R S.marks c (moves_of m)) 12 from_13 e (λ z. omega arith))

          module _ (f : fresh R S.marks c (moves_of m) ≡ true) where
            to_13 : {x : ℕ} → x ≡ from_13 → x ≡ save_answer W S c m
            to_13 e = to_12 (goes_on (fresh R S.marks c (moves_of m)) 12 from_13 f e)

            pub save_13 : result_ok R S.order m ≡ false → 13 ≡ save_answer W S c m
            save_13 e = to_13 (stops (result_ok R S.order m) 13 from_14 e (λ z. omega arith))

            module _ (r : result_ok R S.order m ≡ true) where
              pub save_14 : 65535 ≤ S.saves → 14 ≡ save_answer W S c m
              save_14 h = to_13 (goes_on (result_ok R S.order m) 13 from_14 r (stops_last (ltb S.saves 65535) 14 (le-ltb S.saves 65535 h)))

              pub save_none : S.saves < 65535 → 0 ≡ save_answer W S c m
              save_none h = to_13 (goes_on (result_ok R S.order m) 13 from_14 r (goes_off (ltb S.saves 65535) 14 (lt-ltb S.saves 65535 h)))

-- What an accepted save has passed

pub record Passed (W : Week) (S : Sheet) (c : ℕ) (m : List ℕ) : Type 0 where
  pub week : refusal W ≡ 0
  pub sheet : sound (pair_rules W) S ≡ true
  pub copy : c ≤ S.saves
  pub moves : moves_ok (lots W) W.domain m ≡ true
  pub young : fresh (pair_rules W) S.marks c (moves_of m) ≡ true
  pub result : result_ok (pair_rules W) S.order m ≡ true
  pub room : S.saves < 65535

module _ (W : Week) (S : Sheet) (c : ℕ) (m : List ℕ) where
  pub save_passed : save_answer W S c m ≡ 0 → Passed W S c m
  unfolding save_answer
  save_passed e =
      let e9 = zero_rest (refusal W) _ e in
      let e10 = passed_rest (sound (pair_rules W) S) 9 _ (λ z. omega arith) e9 in
      let e11 = passed_rest (leb c S.saves) 10 _ (λ z. omega arith) e10 in
      let e12 = passed_rest (moves_ok (lots W) W.domain m) 11 _ (λ z. omega arith) e11 in
      let e13 = passed_rest (fresh (pair_rules W) S.marks c (moves_of m)) 12 _ (λ z. omega arith) e12 in
      let e14 = passed_rest (result_ok (pair_rules W) S.order m) 13 _ (λ z. omega arith) e13 in
      record {
        week = zero_first (refusal W) _ e;
        sheet = passed_first (sound (pair_rules W) S) 9 _ (λ z. omega arith) e9;
        copy = leb-true c S.saves (passed_first (leb c S.saves) 10 _ (λ z. omega arith) e10);
        moves = passed_first (moves_ok (lots W) W.domain m) 11 _ (λ z. omega arith) e11;
        young = passed_first (fresh (pair_rules W) S.marks c (moves_of m)) 12 _ (λ z. omega arith) e12;
        result = passed_first (result_ok (pair_rules W) S.order m) 13 _ (λ z. omega arith) e13;
        room = ltb-true S.saves 65535 (passed_last (ltb S.saves 65535) 14 (λ z. omega arith) e14);
      }

  pub save_accepted : Passed W S c m → save_answer W S c m ≡ 0
  save_accepted p = sym (save_none W S c m p.week p.sheet p.copy p.moves p.young p.result p.room)

-- What comes back

module _ (W : Week) (o : List ℕ) where
  abbrev open_of : ℕ → Opened
  open_of a = record { answer = a; sheet = cond (eqb a 0) (new_sheet (lots W) o) blank }

  pub open_refused : (r : Refusal) → number r ≡ open_answer W o → opened_of (Err r) ≡ opened W o
  unfolding opened
  open_refused r e = sym (rw (ne_eqb (number r) 0 (number_some r))) ∙ ap open_of e

  pub open_done : (S : Sheet) → 0 ≡ open_answer W o → S ≡ new_sheet (lots W) o → opened_of (Ok S) ≡ opened W o
  unfolding opened
  open_done S e f = ap (λ (T : Sheet). record { answer = 0; sheet = T }) f ∙ ap open_of e
