-- What every sheet of a history is: sound, with 24 places and 24 marks; open makes it so, and every call keeps it so, whatever its numbers.
-- Assumes nothing.
use mathlib.Core.Path.{◌≡◌, refl, sym, ◌∙◌, ap}
use mathlib.Core.Bool.{Bool, true, false, cond}
use mathlib.Core.List.{List, [], ◌∷◌}
use Prim.Native.Nat.{ℕ, zero, suc, ◌+◌, ◌≤◌, ◌<◌}
use native.Mathlib.Omega.{arith}
use lib.Dec.{eqb}
use lib.ListN.{length, get_or, take, replicate, length-replicate}
use lib.Seq.{take_all, length-take-le}
use borrow.Author.Tests.{leb-true, le-leb, eqb-true, eqb-false}
use Rattle.lex.specs.Every.{every_of}
use Rattle.lex.proofs.Every.{and_right, not_both, every_true, every_at}
use Rattle.lex.proofs.Lists.{padded_length, padded_take}
use Rattle.week.specs.declared.Numbers.{Numbers}
use Rattle.week.specs.Rules.{Rules, rules, keeps}
use Rattle.week.specs.Refusal.{unless, or_else}
use Rattle.week.specs.Tables.{Week, lots, pair_rules, refusal, admits, numbers_ok, lengths_ok, words_ok, ties_ok}
use Rattle.week.proofs.Tables.{passed_last, joined_admits, lengths_bad, accepted, zero_first, zero_rest}
use Rattle.sheet.specs.declared.Sheet.{Sheet}
use Rattle.sheet.specs.Moves.{moves_of, names, moves_ok, fresh, stirs, placed_all, marked_all}
use Rattle.sheet.specs.Sheet.{zeros, blank, stands, open_answer, new_sheet, opened, mark_ok, sound_marks, copied, sound, result_ok, save_answer, with_moves, saved}
use Rattle.sheet.specs.History.{lent, Save, Call, copying, saving, saved_by, step, after}
use Rattle.sheet.proofs.Services.{Sound, sound_good, Passed, save_passed, save_accepted, copy_none, joined_none}
use Rattle.sheet.proofs.Placing.{placed_length, marked_length, marked_other, marked_named}

pub record Held (W : Week) (S : Sheet) : Type 0 where
  pub week : refusal W ≡ 0
  pub sheet : Sound (pair_rules W) S
  pub places : length S.order ≡ 24
  pub spots : length S.marks ≡ 24

-- Open

zero_at : (k p : ℕ) → ◌≡◌ {A = ℕ} (get_or (replicate k 0) p 0) 0
zero_at zero p = refl
zero_at (suc k) zero = refl
zero_at (suc k) (suc p) = zero_at k p

-- the lots of a new sheet stand as in its order
new_order : (n : ℕ) (o : List ℕ) → length o ≡ n → take n (new_sheet n o).order ≡ o
unfolding new_sheet
new_order n o e = padded_take 24 (take n o) n (length-take-le n o (omega arith)) ∙ take_all n o (omega arith)

new_held : (W : Week) (o : List ℕ) → refusal W ≡ 0 → length o ≡ lots W → keeps (pair_rules W) o ≡ true → Held W (new_sheet (lots W) o)
unfolding new_sheet stands sound_marks mark_ok zeros
new_held W o w e k =
    let few = (accepted W w).limits.few in
    let size = length-take-le (lots W) o (omega arith) in
    record {
      week = w;
      sheet = record {
        lots = refl;
        count = omega arith;
        order = ap (keeps (pair_rules W)) (new_order (lots W) o e) ∙ k;
        marks = every_true (mark_ok 0 zeros) (lots W) (λ p l. le-leb (get_or zeros p 0) 0 (let z = zero_at 24 p in omega arith));
      };
      places = padded_length 24 (take (lots W) o) (omega arith);
      spots = length-replicate {A = ℕ} 24 0;
    }

module _ (W : Week) (o : List ℕ) (e : (opened W o).answer ≡ 0) where
  abbrev sized : Bool
  sized = eqb (length o) (lots W)

  open_sheet : (opened W o).sheet ≡ new_sheet (lots W) o
  unfolding opened
  open_sheet = ap (λ (a : ℕ). cond (eqb a 0) (new_sheet (lots W) o) blank) e

  open_parts : ((length o ≡ lots W) × (refusal W ≡ 0)) × (keeps (pair_rules W) o ≡ true)
  unfolding opened open_answer
  open_parts =
      let j = joined_none sized (refusal W) (joined_admits true sized W ∙ zero_first (admits true sized W) (unless (keeps (pair_rules W) o) 6) e) in
      ((eqb-true (length o) (lots W) j.0, j.1), passed_last (keeps (pair_rules W) o) 6 (λ z. omega arith) (zero_rest (admits true sized W) (unless (keeps (pair_rules W) o) 6) e))

  pub held_open : Held W (opened W o).sheet
  held_open = rw open_sheet (new_held W o open_parts.0.1 open_parts.0.0 open_parts.1)

  pub open_order : take (lots W) (opened W o).sheet.order ≡ o
  open_order = ap (λ (S : Sheet). take (lots W) S.order) open_sheet ∙ new_order (lots W) o open_parts.0.0

  pub open_saves : (opened W o).sheet.saves ≡ 0
  unfolding new_sheet
  open_saves = ap (λ (S : Sheet). S.saves) open_sheet

-- The numbers of a call

-- The numbers of a call, where they are accepted with the tables of W: the lots are as many, and so the rules are the same.
module _ (W : Week) (N : Numbers) (w : refusal W ≡ 0) (u : refusal (lent W N) ≡ 0) where
  pub same_lots : N.n ≡ lots W
  same_lots = sym (accepted (lent W N) u).lengths.domain ∙ (accepted W w).lengths.domain

  pub same_rules : pair_rules (lent W N) ≡ pair_rules W
  same_rules = ap (λ (n : ℕ). rules n W.domain W.ties) same_lots

  -- what a save has passed with them it has passed with those of W
  pub passed_lent : (S : Sheet) (c : ℕ) (m : List ℕ) → Passed (lent W N) S c m → Passed W S c m
  passed_lent S c m p = record {
    week = w;
    sheet = ap (λ (R : Rules). sound R S) (sym same_rules) ∙ p.sheet;
    copy = p.copy;
    moves = ap (λ (n : ℕ). moves_ok n W.domain m) (sym same_lots) ∙ p.moves;
    young = ap (λ (R : Rules). fresh R S.marks c (moves_of m)) (sym same_rules) ∙ p.young;
    result = ap (λ (R : Rules). result_ok R S.order m) (sym same_rules) ∙ p.result;
    room = p.room;
  }

-- With another number of lots the tables of W are refused: with 1 where the numbers are outside their limits, else with 2.
pub other_lots : (W : Week) (N : Numbers) → refusal W ≡ 0 → (N.n ≡ lots W → ⊥) → refusal (lent W N) ≡ cond (numbers_ok N) 2 1
unfolding admits
other_lots W N w h = go (numbers_ok N) (lengths_ok N.n W.domain W.loss W.give W.ties) wrong
  where
    wrong : lengths_ok N.n W.domain W.loss W.give W.ties ≡ false
    wrong = sym (lengths_bad N.n W.domain W.loss W.give W.ties (λ l. h (sym l.domain ∙ (accepted W w).lengths.domain)))

    later : ℕ
    later = or_else (unless (words_ok N.n W.domain W.loss W.give) 3) (unless (ties_ok (pair_rules (lent W N))) 4)

    go : (a b : Bool) → b ≡ false → or_else (unless a 1) (or_else (unless b 2) later) ≡ cond a 2 1
    go true true e = absurd (not_both refl e)
    go true false e = refl
    go false b e = refl

-- and the other way round
pub passed_own : (W : Week) (N : Numbers) → refusal (lent W N) ≡ 0 → (S : Sheet) (c : ℕ) (m : List ℕ) → Passed W S c m → Passed (lent W N) S c m
passed_own W N u S c m p = passed_lent (lent W N) W.numbers u p.week S c m p

-- A call

-- a save is accepted and puts its moves in, or it is refused and leaves the sheet as it was
pub data Outcome (W : Week) (S : Sheet) (x : Save) : Type 0 where
  taken : (saved_by W S x).answer ≡ 0 → (saved_by W S x).sheet ≡ with_moves S x.moves → Outcome W S x
  refused : ((saved_by W S x).answer ≡ 0 → ⊥) → (saved_by W S x).sheet ≡ S → Outcome W S x

pub outcome : (W : Week) (S : Sheet) (x : Save) → Outcome W S x
unfolding saved
outcome W S x = go (eqb (save_answer (lent W x.numbers) S x.copy x.moves) 0) refl
  where
    k : ℕ
    k = save_answer (lent W x.numbers) S x.copy x.moves

    go : (b : Bool) → eqb k 0 ≡ b → Outcome W S x
    go true e = taken (eqb-true k 0 e) (ap (λ (b : Bool). cond b (with_moves S x.moves) S) e)
    go false e = refused (eqb-false k 0 e) (ap (λ (b : Bool). cond b (with_moves S x.moves) S) e)

pub taken_sheet : (W : Week) (S : Sheet) (x : Save) → (saved_by W S x).answer ≡ 0 → (saved_by W S x).sheet ≡ with_moves S x.moves
taken_sheet W S x e = elim (outcome W S x) [
  | taken f g ↦ g
  | refused f g ↦ absurd (f e)
]

-- the answer of a save is that of its checks
module _ (W : Week) (S : Sheet) (x : Save) where
  pub answered : {k : ℕ} → (saved_by W S x).answer ≡ k → save_answer (lent W x.numbers) S x.copy x.moves ≡ k
  unfolding saved
  answered e = e

  pub answers : {k : ℕ} → save_answer (lent W x.numbers) S x.copy x.moves ≡ k → (saved_by W S x).answer ≡ k
  unfolding saved
  answers e = e

  -- an accepted save has passed every check, with its own numbers and with those of W
  pub taken_own : (saved_by W S x).answer ≡ 0 → Passed (lent W x.numbers) S x.copy x.moves
  taken_own e = save_passed (lent W x.numbers) S x.copy x.moves (answered e)

  pub taken_passed : refusal W ≡ 0 → (saved_by W S x).answer ≡ 0 → Passed W S x.copy x.moves
  taken_passed w e = let p = taken_own e in passed_lent W x.numbers w p.week S x.copy x.moves p

  -- and one that has is accepted, if its own numbers are
  pub passed_taken : refusal (lent W x.numbers) ≡ 0 → Passed W S x.copy x.moves → (saved_by W S x).answer ≡ 0
  passed_taken u p = answers (save_accepted (lent W x.numbers) S x.copy x.moves (passed_own W x.numbers u S x.copy x.moves p))

module _ {W : Week} {S : Sheet} (held : Held W S) where
  -- a mark is not above the save number
  pub mark_low : (p : ℕ) → p < lots W → get_or S.marks p 0 ≤ S.saves
  unfolding sound_marks mark_ok
  mark_low p l = leb-true (get_or S.marks p 0) S.saves (every_at (mark_ok S.saves S.marks) (lots W) p held.sheet.marks l)

  -- a copy with accepted numbers is done
  pub copy_done : (N : Numbers) → refusal (lent W N) ≡ 0 → (copied (lent W N) S).answer ≡ 0
  unfolding copied
  copy_done N u =
      let good = ap (λ (R : Rules). sound R S) (same_rules W N held.week u) ∙ sym (sound_good (pair_rules W) S held.sheet) in
      sym (copy_none (lent W N) S refl u good)

  mark_kept : (m : List ℕ) (q : ℕ) → q < lots W → mark_ok (S.saves + 1) (marked_all (S.saves + 1) (moves_of m) S.marks) q ≡ true
  unfolding mark_ok
  mark_kept m q l = le-leb (get_or (marked_all (S.saves + 1) (moves_of m) S.marks) q 0) (S.saves + 1) (go (names (moves_of m) q) refl)
    where
      go : (b : Bool) → names (moves_of m) q ≡ b → get_or (marked_all (S.saves + 1) (moves_of m) S.marks) q 0 ≤ S.saves + 1
      go true e = let f = (accepted W held.week).limits.few in let h = marked_named (S.saves + 1) (moves_of m) S.marks q (let z = held.spots in omega arith) e in omega arith
      go false e = let h = marked_other (S.saves + 1) (moves_of m) S.marks q e in let g = mark_low q l in omega arith

  -- what an accepted save does keeps the sheet so
  pub held_taken : (c : ℕ) (m : List ℕ) → Passed W S c m → Held W (with_moves S m)
  unfolding with_moves sound_marks result_ok
  held_taken c m p = record {
    week = held.week;
    sheet = record {
      lots = held.sheet.lots;
      count = let r = p.room in omega arith;
      order = and_right (every_of (stirs S.order) (moves_of m)) (stands (pair_rules W) (placed_all (moves_of m) S.order)) p.result;
      marks = every_true (mark_ok (S.saves + 1) (marked_all (S.saves + 1) (moves_of m) S.marks)) (lots W) (λ q l. mark_kept m q l);
    };
    places = placed_length (moves_of m) S.order ∙ held.places;
    spots = marked_length (S.saves + 1) (moves_of m) S.marks ∙ held.spots;
  }

  pub held_step : (x : Call) → Held W (step W S x)
  unfolding step
  held_step (copying N) = held
  held_step (saving x) = elim (outcome W S x) [
    | taken e f ↦ rw f (held_taken x.copy x.moves (taken_passed W S x held.week e))
    | refused e f ↦ rw f held
  ]

-- a copy that is done gives the save number
pub copy_number : (U : Week) (S : Sheet) → (copied U S).answer ≡ 0 → (copied U S).copy ≡ S.saves
unfolding copied
copy_number U S e = ap (λ (a : ℕ). cond (eqb a 0) S.saves 0) e

-- at every moment
pub held_after : {W : Week} {S : Sheet} → Held W S → (h : List Call) → Held W (after W S h)
unfolding after
held_after held [] = held
held_after {W = W} {S = S} held (x ∷ h) = held_after {S = step W S x} (held_step held x) h
