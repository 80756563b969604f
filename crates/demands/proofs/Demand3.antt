-- Demand 3, over every history of one opened sheet: the tables are the same at every call, the numbers are each call's own. Only where a
-- save's copy is spoken of (2) is its copy number one that the sheet gave out; the other theorems hold for any copy number.
-- Assumes nothing.
use mathlib.Core.Path.{◌≡◌, refl, sym, ◌∙◌, ap}
use mathlib.Core.Bool.{Bool, true, false, cond}
use mathlib.Core.Logic.{◌↔◌}
use mathlib.Core.List.{List, [], ◌∷◌}
use Prim.Native.Nat.{ℕ, ◌+◌, ◌≤◌, ◌<◌}
use native.Mathlib.Omega.{arith}
use native.Mathlib.Nat.{le_refl}
use lib.ListN.{length, take}
use borrow.Author.Tests.{eq-eqb, ne_eqb}
use Rattle.lex.proofs.Every.{both, every_true}
use Rattle.week.specs.declared.Numbers.{Numbers}
use Rattle.week.specs.Rules.{keeps}
use Rattle.week.specs.Tables.{Week, lots, pair_rules, refusal, numbers_ok}
use Rattle.sheet.specs.declared.Sheet.{Sheet}
use Rattle.sheet.specs.Moves.{moves_of, fresh_at, fresh_lot, fresh_move, fresh}
use Rattle.sheet.specs.Sheet.{stands, opened, copied, save_answer, with_moves, saved}
use Rattle.sheet.specs.History.{lent, Save, save, Call, copying, saving, saved_by, step, after, order_of, WellFormed, Overtaken, answer_since, accepted_in, put_in, Ended, again, one_by_one, each_taken, Replayed, OtherWay}
use Rattle.sheet.proofs.Moves.{fresh_old}
use Rattle.sheet.proofs.Services.{Passed, copy_early, save_early}
use Rattle.sheet.proofs.Placing.{every_all, placed_take}
use Rattle.sheet.proofs.Stale.{one_more, stale_then, stale_if}
use Rattle.sheet.proofs.EitherWay.{first_passed, second_passed, same_order, same_saves}
use Rattle.sheet.proofs.Held.{Held, held_open, open_order, open_saves, other_lots, outcome, taken, refused, taken_sheet, taken_own, taken_passed, passed_taken, mark_low, copy_done, copy_number, held_step, held_after}
use Rattle.demands.proofs.Demand1.{save_answered}

-- Refused calls change nothing; a copy is a value and changes nothing either

pub refused_nothing : (W : Week) (S : Sheet) (x : Save) → ((saved_by W S x).answer ≡ 0 → ⊥) → (saved_by W S x).sheet ≡ S
refused_nothing W S x = (save_answered (lent W x.numbers) S x.copy x.moves).unchanged

-- A call with another n than the opened sheet's is refused: with 1 where its numbers are outside their limits, else with 2

some : (b : Bool) → ◌≡◌ {A = ℕ} (cond b 2 1) 0 → ⊥
some true z = omega arith
some false z = omega arith

module _ (W : Week) (o : List ℕ) (e : (opened W o).answer ≡ 0) (h : List Call) (N : Numbers) (other : N.n ≡ lots W → ⊥) where
  abbrev at : Sheet
  at = after W (opened W o).sheet h

  judged : refusal (lent W N) ≡ cond (numbers_ok N) 2 1
  judged = other_lots W N (held_open W o e).week other

  pub other_copy : (copied (lent W N) at).answer ≡ cond (numbers_ok N) 2 1
  unfolding copied
  other_copy = sym (copy_early (lent W N) at (sym judged) (some (numbers_ok N)))

  pub other_save : (c : ℕ) (m : List ℕ) → (saved_by W at (save N c m)).answer ≡ cond (numbers_ok N) 2 1
  unfolding saved
  other_save c m = sym (save_early (lent W N) at c m (sym judged) (some (numbers_ok N)))

  pub other_nothing : (c : ℕ) (m : List ℕ) → (saved_by W at (save N c m)).sheet ≡ at
  other_nothing c m = refused_nothing W at (save N c m) (λ z. some (numbers_ok N) (sym (other_save c m) ∙ z))

-- 1: at every moment the order keeps every pair rule

pub keeps_always : (W : Week) (o : List ℕ) → (opened W o).answer ≡ 0 → (h : List Call) → keeps (pair_rules W) (order_of W (after W (opened W o).sheet h)) ≡ true
unfolding stands
keeps_always W o e h = (held_after (held_open W o e) h).sheet.order

-- A copy is refused only for its own numbers, and one that is done gives out the save number

pub copies_always : (W : Week) (o : List ℕ) → (opened W o).answer ≡ 0 → (h : List Call) (N : Numbers) → refusal (lent W N) ≡ 0 → (copied (lent W N) (after W (opened W o).sheet h)).answer ≡ 0
copies_always W o e h N u = copy_done (held_after (held_open W o e) h) N u

pub copies_number : (U : Week) (S : Sheet) → (copied U S).answer ≡ 0 → (copied U S).copy ≡ S.saves
copies_number = copy_number

-- 2: a well-formed save is answered 12 exactly if some lot it names, or a lot tied to one, was moved by a save accepted since its copy

module _ (W : Week) (o : List ℕ) (e : (opened W o).answer ≡ 0) (h : List Call) (M : Numbers) (g : List Call) (N : Numbers) (m : List ℕ) where
  -- the sheet that is copied
  abbrev source : Sheet
  source = after W (opened W o).sheet h

  pub stale_exactly : (copied (lent W M) source).answer ≡ 0 → WellFormed (answer_since W source M g N m) → (answer_since W source M g N m ≡ 12) ↔ Overtaken W source g m
  unfolding after step saved
  stale_exactly done well =
      let held = held_after (held_open W o e) h in
      let from : answer_since W source M g N m ≡ save_answer (lent W N) (after W source g) source.saves m = ap (λ (c : ℕ). save_answer (lent W N) (after W source g) c m) (copy_number (lent W M) source done) in
      let ok : WellFormed (save_answer (lent W N) (after W source g) source.saves m) = λ a b. well (omega arith) (omega arith) in
      (λ z. stale_then held g N m ok (sym from ∙ z), λ v. from ∙ stale_if held g N m ok v)

-- 3: the end is what the accepted saves give

module _ (W : Week) (S : Sheet) (x : Save) (h : List Call) where
  abbrev rest : List Save
  rest = accepted_in W (saved_by W S x).sheet h

  with_accepted : (saved_by W S x).answer ≡ 0 → accepted_in W S (saving x ∷ h) ≡ x ∷ rest
  unfolding accepted_in
  with_accepted e = ap (λ (b : Bool). cond b (x ∷ rest) rest) (eq-eqb (saved_by W S x).answer 0 e)

  with_refused : ((saved_by W S x).answer ≡ 0 → ⊥) → accepted_in W S (saving x ∷ h) ≡ rest
  unfolding accepted_in
  with_refused e = ap (λ (b : Bool). cond b (x ∷ rest) rest) (ne_eqb (saved_by W S x).answer 0 e)

-- the opened order with the accepted saves' moves put in, one save after the other; and the save number is their number

ends_from : (W : Week) (n : ℕ) (S : Sheet) (h : List Call) → take n (after W S h).order ≡ put_in (accepted_in W S h) (take n S.order)
unfolding accepted_in after step put_in with_moves
ends_from W n S [] = refl
ends_from W n S (copying N ∷ h) = ends_from W n S h
ends_from W n S (saving x ∷ h) =
    let r = ends_from W n (saved_by W S x).sheet h in
    elim (outcome W S x) [
      | taken e f ↦
          let moved = ap (λ (T : Sheet). take n T.order) f ∙ placed_take (moves_of x.moves) n S.order in
          r ∙ (ap (put_in (rest W S x h)) moved ∙ sym (ap (λ (l : List Save). put_in l (take n S.order)) (with_accepted W S x h e)))
      | refused e f ↦ r ∙ (ap (λ (T : Sheet). put_in (rest W S x h) (take n T.order)) f ∙ sym (ap (λ (l : List Save). put_in l (take n S.order)) (with_refused W S x h e)))
    ]

saves_from : (W : Week) (S : Sheet) (h : List Call) → (after W S h).saves ≡ S.saves + length (accepted_in W S h)
unfolding accepted_in after step with_moves
saves_from W S [] = omega arith
saves_from W S (copying N ∷ h) = saves_from W S h
saves_from W S (saving x ∷ h) =
    let r = saves_from W (saved_by W S x).sheet h in
    elim (outcome W S x) [
      | taken e f ↦ let a = ap length (with_accepted W S x h e) in let s = ap (λ (T : Sheet). T.saves) f in omega arith
      | refused e f ↦ let a = ap length (with_refused W S x h e) in let s = ap (λ (T : Sheet). T.saves) f in omega arith
    ]

pub ended : (W : Week) (o : List ℕ) → (opened W o).answer ≡ 0 → (h : List Call) → Ended W o (opened W o).sheet h
ended W o e h = record {
  order = ends_from W (lots W) (opened W o).sheet h ∙ ap (put_in (accepted_in W (opened W o).sheet h)) (open_order W o e);
  saves = let a = saves_from W (opened W o).sheet h in let b = open_saves W o e in omega arith;
}

-- and that of the accepted saves one by one, each from a fresh copy, where each is accepted again

module _ {W : Week} {S : Sheet} (held : Held W S) (x : Save) (e : (saved_by W S x).answer ≡ 0) where
  abbrev m : List ℕ
  m = x.moves

  -- an accepted save is accepted from a fresh copy too
  fresh_passed : Passed W S x.copy m → Passed W S S.saves m
  unfolding fresh fresh_move fresh_lot
  fresh_passed p = record {
    week = p.week;
    sheet = p.sheet;
    copy = le_refl S.saves;
    moves = p.moves;
    young = every_all (fresh_move (pair_rules W) S.marks S.saves) (moves_of m) (λ y _. every_true (fresh_at (pair_rules W) S.marks S.saves y.lot) (lots W) (λ q l. sym (fresh_old (pair_rules W) S.marks S.saves y.lot q (mark_low held q l))));
    result = p.result;
    room = p.room;
  }

  fresh_taken : (again W S x).answer ≡ 0
  fresh_taken =
      let u = (taken_own W S x e).week in
      rw (copy_number (lent W x.numbers) S (copy_done held x.numbers u))
      (passed_taken W S (save x.numbers S.saves m) u (fresh_passed (taken_passed W S x held.week e)))

  fresh_sheet : (again W S x).sheet ≡ (saved_by W S x).sheet
  fresh_sheet = taken_sheet W S (save x.numbers (copied (lent W x.numbers) S).copy m) fresh_taken ∙ sym (taken_sheet W S x e)

replayed_held : {W : Week} {S : Sheet} → Held W S → (h : List Call) → Replayed W S h
unfolding accepted_in one_by_one each_taken after step
replayed_held held [] = record { end = refl; each = refl }
replayed_held held (copying N ∷ h) = let r = replayed_held held h in record { end = r.end; each = r.each }
replayed_held {W} {S} held (saving x ∷ h) =
    let r = replayed_held {S = step W S (saving x)} (held_step held (saving x)) h in
    elim (outcome W S x) [
      | taken e f ↦ record {
        end = ap (one_by_one W S) (with_accepted W S x h e) ∙ (ap (λ (T : Sheet). one_by_one W T (rest W S x h)) (fresh_sheet held x e) ∙ r.end);
        each = ap (each_taken W S) (with_accepted W S x h e) ∙ both (eq-eqb (again W S x).answer 0 (fresh_taken held x e)) (ap (λ (T : Sheet). each_taken W T (rest W S x h)) (fresh_sheet held x e) ∙ r.each);
      }
      | refused e f ↦ record {
        end = ap (one_by_one W S) (with_refused W S x h e) ∙ (ap (λ (T : Sheet). one_by_one W T (rest W S x h)) (sym f) ∙ r.end);
        each = ap (each_taken W S) (with_refused W S x h e) ∙ (ap (λ (T : Sheet). each_taken W T (rest W S x h)) (sym f) ∙ r.each);
      }
    ]

pub replayed : (W : Week) (o : List ℕ) → (opened W o).answer ≡ 0 → (h : List Call) → Replayed W (opened W o).sheet h
replayed W o e h = replayed_held (held_open W o e) h

-- 4: two neighbouring accepted saves, the later from a copy older than the earlier save, may go the other way round

-- calls among which no save is accepted change nothing
quiet : (W : Week) (S : Sheet) (g : List Call) → accepted_in W S g ≡ [] → after W S g ≡ S
unfolding accepted_in after step
quiet W S [] e = refl
quiet W S (copying N ∷ g) e = quiet W S g e
quiet W S (saving x ∷ g) e = elim (outcome W S x) [
  | taken f t ↦ absurd (let z = ap length (sym (with_accepted W S x g f) ∙ e) in omega arith)
  | refused f t ↦ quiet W (saved_by W S x).sheet g (sym (with_refused W S x g f) ∙ e) ∙ t
]

module _ (W : Week) (o : List ℕ) (e : (opened W o).answer ≡ 0) (h : List Call) (x : Save) (g : List Call) (y : Save) where
  -- the sheet before the two saves, and after each
  abbrev start : Sheet
  start = after W (opened W o).sheet h

  abbrev middle : Sheet
  middle = (saved_by W start x).sheet

  abbrev end : Sheet
  end = (saved_by W (after W middle g) y).sheet

  pub either_way : (saved_by W start x).answer ≡ 0 → accepted_in W middle g ≡ [] → (saved_by W (after W middle g) y).answer ≡ 0 → y.copy < middle.saves → OtherWay W start x y end
  either_way a q b older =
      let held = held_after (held_open W o e) h in
      let m : middle ≡ with_moves start x.moves = taken_sheet W start x a in
      let z : after W middle g ≡ with_moves start x.moves = quiet W middle g q ∙ m in
      let old : y.copy ≤ start.saves = let n = ap (λ (U : Sheet). U.saves) m ∙ one_more start x.moves in omega arith in
      let earlier : Passed W start x.copy x.moves = taken_passed W start x held.week a in
      let later : Passed W (with_moves start x.moves) y.copy y.moves = rw z at (taken_passed W (after W middle g) y held.week b) in
      let one = (taken_own W start x a).week in
      let two = (taken_own W (after W middle g) y b).week in
      let first : (saved_by W start y).answer ≡ 0 = passed_taken W start y two (first_passed held x.copy x.moves y.copy y.moves earlier later old) in
      let t : (saved_by W start y).sheet ≡ with_moves start y.moves = taken_sheet W start y first in
      let second : (saved_by W (saved_by W start y).sheet x).answer ≡ 0 = rw t (passed_taken W (with_moves start y.moves) x one (second_passed held x.copy x.moves y.copy y.moves earlier later old)) in
      let there : end ≡ with_moves (with_moves start x.moves) y.moves = taken_sheet W (after W middle g) y b ∙ ap (λ (U : Sheet). with_moves U y.moves) z in
      let here : (saved_by W (saved_by W start y).sheet x).sheet ≡ with_moves (with_moves start y.moves) x.moves = taken_sheet W (saved_by W start y).sheet x second ∙ ap (λ (U : Sheet). with_moves U x.moves) t in
      record {
        first = first;
        second = second;
        order = ap (λ (U : Sheet). U.order) here ∙ (same_order held x.copy x.moves y.copy y.moves earlier later old ∙ sym (ap (λ (U : Sheet). U.order) there));
        saves = ap (λ (U : Sheet). U.saves) here ∙ (same_saves start x.moves y.moves ∙ sym (ap (λ (U : Sheet). U.saves) there));
      }
