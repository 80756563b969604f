-- Marks over a history: a lot's mark is above the save number at which the history began exactly if the history moved it. And so
-- which saves are stale.
-- Assumes nothing.
use mathlib.Core.Path.{◌≡◌, refl, sym, ◌∙◌, ap}
use mathlib.Core.Bool.{Bool, true, false, ◌||◌, not}
use mathlib.Core.List.{List, [], ◌∷◌}
use Prim.Native.Nat.{ℕ, ◌+◌, ◌≤◌, ◌<◌}
use native.Mathlib.Omega.{arith}
use native.Mathlib.Decide.{dec_lt}
use lib.Dec.{eqb, leb, ltb}
use lib.ListN.{get_or}
use borrow.Author.Tests.{leb-false, lt-leb, ltb-true, eqb-true, eqb-false, eq-eqb, ne_eqb, not-false}
use Rattle.lex.specs.Every.{every_of}
use Rattle.lex.proofs.Every.{and_left, false_of, not_both, or_neither, every_false, every_miss}
use Rattle.week.specs.declared.Numbers.{Numbers}
use Rattle.week.specs.Rules.{Rules, bit_of}
use Rattle.week.specs.Tables.{Week, lots, pair_rules, refusal}
use Rattle.week.proofs.Tables.{accepted, admits_most}
use Rattle.sheet.specs.declared.Sheet.{Sheet}
use Rattle.sheet.specs.Moves.{moves_of, names, move_ok, moves_ok, near, fresh_at, fresh_lot, fresh_move, fresh, stirs, placed_all}
use Rattle.sheet.specs.Sheet.{stands, sound, result_ok, save_answer, with_moves}
use Rattle.sheet.specs.History.{lent, Save, Call, copying, saving, saved_by, step, after, WellFormed, shifted, moved_in, Overtaken}
use Rattle.sheet.proofs.Moves.{taken_read}
use Rattle.sheet.proofs.Services.{sound_good, Passed, save_early, save_11, save_12, save_13, save_14, save_none}
use Rattle.sheet.proofs.Placing.{every_named, every_fails, placed_other, placed_stirs, marked_other, marked_named}
use Rattle.sheet.proofs.Held.{Held, same_rules, outcome, taken, refused, taken_passed, mark_low, held_step, held_after}

-- What an accepted save moves: the lots that it names

module _ {W : Week} {S : Sheet} (held : Held W S) (c : ℕ) (m : List ℕ) (passed : Passed W S c m) (p : ℕ) where
  pub named_below : names (moves_of m) p ≡ true → p < lots W
  unfolding move_ok
  named_below e =
      let a = every_named (move_ok (lots W) W.domain) (moves_of m) p (taken_read (lots W) W.domain m passed.moves).right e in
      ltb-true p (lots W) (and_left (ltb p (lots W)) (bit_of (get_or W.domain p 0) a.slot) a.passes)

  pub named_place : names (moves_of m) p ≡ true → p < 24
  named_place e = let l = named_below e in let f = (accepted W held.week).limits.few in omega arith

  named_shifts : names (moves_of m) p ≡ true → shifted S (with_moves S m) p ≡ true
  unfolding shifted with_moves result_ok
  named_shifts e =
      ap not (ne_eqb (get_or S.order p 0) (get_or (placed_all (moves_of m) S.order) p 0)
      (placed_stirs (moves_of m) S.order S.order p (taken_read (lots W) W.domain m passed.moves).apart
      (and_left (every_of (stirs S.order) (moves_of m)) (stands (pair_rules W) (placed_all (moves_of m) S.order)) passed.result)
      (let l = named_place e in let z = held.places in omega arith) e))

  other_stays : names (moves_of m) p ≡ false → shifted S (with_moves S m) p ≡ false
  unfolding shifted with_moves
  other_stays e = ap not (eq-eqb (get_or S.order p 0) (get_or (placed_all (moves_of m) S.order) p 0) (sym (placed_other (moves_of m) S.order p e)))

  pub named_mark : names (moves_of m) p ≡ true → get_or (with_moves S m).marks p 0 ≡ S.saves + 1
  unfolding with_moves
  named_mark e = marked_named (S.saves + 1) (moves_of m) S.marks p (let l = named_place e in let z = held.spots in omega arith) e

  other_mark : names (moves_of m) p ≡ false → get_or (with_moves S m).marks p 0 ≡ get_or S.marks p 0
  unfolding with_moves
  other_mark e = marked_other (S.saves + 1) (moves_of m) S.marks p e

pub one_more : (S : Sheet) (m : List ℕ) → (with_moves S m).saves ≡ S.saves + 1
unfolding with_moves
one_more S m = refl

-- The marks after a history

pub record Marked (W : Week) (S : Sheet) (h : List Call) (p : ℕ) : Type 0 where
  pub still : moved_in W S h p ≡ false → get_or (after W S h).marks p 0 ≡ get_or S.marks p 0
  pub later : moved_in W S h p ≡ true → S.saves < get_or (after W S h).marks p 0
  pub below : moved_in W S h p ≡ true → p < lots W
  pub up : S.saves ≤ (after W S h).saves

module _ (W : Week) (S : Sheet) (x : Call) (h : List Call) (p : ℕ) (r : Marked W (step W S x) h p) where
  abbrev T : Sheet
  T = step W S x

  -- the call did not move the lot
  call_stays : shifted S T p ≡ false → get_or T.marks p 0 ≡ get_or S.marks p 0 → S.saves ≤ T.saves → Marked W S (x ∷ h) p
  unfolding after moved_in
  call_stays s k u = record {
    still = λ e. r.still (tail e) ∙ k;
    later = λ e. let g = r.later (tail e) in omega arith;
    below = λ e. r.below (tail e);
    up = let g = r.up in omega arith;
  }
    where
      tail : {b : Bool} → (shifted S T p || moved_in W T h p) ≡ b → moved_in W T h p ≡ b
      tail e = sym (ap (λ (a : Bool). a || moved_in W T h p) s) ∙ e

  -- the call moved it
  call_shifts : shifted S T p ≡ true → S.saves < get_or T.marks p 0 → S.saves ≤ T.saves → p < lots W → Marked W S (x ∷ h) p
  unfolding after moved_in
  call_shifts s k u l = record {
    still = λ e. absurd (not_both (ap (λ (a : Bool). a || moved_in W T h p) s) e);
    later = λ e. go (moved_in W T h p) refl;
    below = λ e. l;
    up = let g = r.up in omega arith;
  }
    where
      go : (b : Bool) → moved_in W T h p ≡ b → S.saves < get_or (after W T h).marks p 0
      go true e = let g = r.later e in omega arith
      go false e = let g = r.still e in omega arith

shifted_none : (S T : Sheet) (p : ℕ) → T ≡ S → shifted S T p ≡ false
unfolding shifted
shifted_none S T p e = ap not (eq-eqb (get_or S.order p 0) (get_or T.order p 0) (sym (ap (λ (U : Sheet). get_or U.order p 0) e)))

module _ {W : Week} {S : Sheet} (held : Held W S) (x : Save) (passed : Passed W S x.copy x.moves) (h : List Call) (p : ℕ) where
  abbrev m : List ℕ
  m = x.moves

  -- an accepted save
  save_went : step W S (saving x) ≡ with_moves S m → Marked W (step W S (saving x)) h p → Marked W S (saving x ∷ h) p
  save_went f r = go (names (moves_of m) p) refl
    where
      more : (step W S (saving x)).saves ≡ S.saves + 1
      more = ap (λ (U : Sheet). U.saves) f ∙ one_more S m

      mark : {k : ℕ} → get_or (with_moves S m).marks p 0 ≡ k → get_or (step W S (saving x)).marks p 0 ≡ k
      mark e = ap (λ (U : Sheet). get_or U.marks p 0) f ∙ e

      shifts : {b : Bool} → shifted S (with_moves S m) p ≡ b → shifted S (step W S (saving x)) p ≡ b
      shifts e = ap (λ (U : Sheet). shifted S U p) f ∙ e

      go : (b : Bool) → names (moves_of m) p ≡ b → Marked W S (saving x ∷ h) p
      go true e = call_shifts W S (saving x) h p r (shifts (named_shifts held x.copy m passed p e)) (let k = mark (named_mark held x.copy m passed p e) in omega arith) (let k = more in omega arith) (named_below held x.copy m passed p e)
      go false e = call_stays W S (saving x) h p r (shifts (other_stays held x.copy m passed p e)) (mark (other_mark held x.copy m passed p e)) (let k = more in omega arith)

pub marked : {W : Week} {S : Sheet} → Held W S → (h : List Call) (p : ℕ) → Marked W S h p
unfolding after moved_in step
marked {W} {S} held [] p = record { still = λ e. refl; later = λ e. absurd (not_both e refl); below = λ e. absurd (not_both e refl); up = omega arith }
marked {W} {S} held (copying N ∷ h) p = call_stays W S (copying N) h p (marked held h p) (shifted_none S S p refl) refl (omega arith)
marked {W} {S} held (saving x ∷ h) p =
    let r = marked {S = step W S (saving x)} (held_step held (saving x)) h p in
    elim (outcome W S x) [
      | taken e f ↦ save_went held x (taken_passed W S x held.week e) h p f r
      | refused e f ↦ call_stays W S (saving x) h p r (shifted_none S (saved_by W S x).sheet p f) (ap (λ (U : Sheet). get_or U.marks p 0) f) (let s = ap (λ (U : Sheet). U.saves) f in omega arith)
    ]

-- Stale saves

module _ (R : Rules) (marks : List ℕ) (c p q : ℕ) where
  -- a mark that makes a save stale
  stale_read : fresh_at R marks c p q ≡ false → (near R p q ≡ true) × (c < get_or marks q 0)
  unfolding fresh_at
  stale_read e = let n = or_neither (not (near R p q)) (leb (get_or marks q 0) c) e in (not-false (near R p q) n.0, leb-false (get_or marks q 0) c n.1)

  stale_make : near R p q ≡ true → c < get_or marks q 0 → fresh_at R marks c p q ≡ false
  unfolding fresh_at
  stale_make e l = rw (e, lt-leb (get_or marks q 0) c l)

-- a save with numbers N and moves m, from a copy taken on sheet S, when the calls g have come after that copy
module _ {W : Week} {S : Sheet} (held : Held W S) (g : List Call) (N : Numbers) (m : List ℕ) where
  abbrev now : Sheet
  now = after W S g

  abbrev U : Week
  U = lent W N

  abbrev answer : ℕ
  answer = save_answer U now S.saves m

  abbrev young : Bool
  young = fresh (pair_rules W) now.marks S.saves (moves_of m)

  -- a stale save, and what makes it so
  stale_why : young ≡ false → Overtaken W S g m
  unfolding fresh fresh_move fresh_lot
  stale_why e =
      let a = every_fails (fresh_move (pair_rules W) now.marks S.saves) (moves_of m) e in
      let b = every_miss (fresh_at (pair_rules W) now.marks S.saves a.move.lot) (lots W) a.fails in
      let k = stale_read (pair_rules W) now.marks S.saves a.move.lot b.at b.fails in
      record { named = a.move.lot; lot = b.at; names = a.named; near = k.0; moved = went b.at b.below k.1 (moved_in W S g b.at) refl }
    where
      went : (q : ℕ) → q < lots W → S.saves < get_or now.marks q 0 → (b : Bool) → moved_in W S g q ≡ b → moved_in W S g q ≡ true
      went q l k true e = e
      went q l k false e = absurd (let s = (marked held g q).still e in let t = mark_low held q l in omega arith)

  why_stale : Overtaken W S g m → young ≡ false
  unfolding fresh fresh_move fresh_lot
  why_stale v = false_of young (λ t. not_both
      (every_named (fresh_move (pair_rules W) now.marks S.saves) (moves_of m) v.named t v.names).passes
      (every_false (fresh_at (pair_rules W) now.marks S.saves v.named) (lots W) v.lot ((marked held g v.lot).below v.moved)
      (stale_make (pair_rules W) now.marks S.saves v.named v.lot v.near ((marked held g v.lot).later v.moved))))

  module _ (well : WellFormed answer) where
    -- a well-formed save passes 1 to 11
    week_passes : refusal U ≡ 0
    week_passes = go (eqb (refusal U) 0) refl
      where
        go : (b : Bool) → eqb (refusal U) 0 ≡ b → refusal U ≡ 0
        go true e = eqb-true (refusal U) 0 e
        go false e = absurd (
            let h = eqb-false (refusal U) 0 e in
            let k = save_early U now S.saves m refl h in
            let f = admits_most true true U in
            well (omega arith) (omega arith))

    abbrev seen : Held W now
    seen = held_after held g

    rule : pair_rules U ≡ pair_rules W
    rule = same_rules W N held.week week_passes

    known : sound (pair_rules U) now ≡ true
    known = ap (λ (R : Rules). sound R now) rule ∙ sym (sound_good (pair_rules W) now seen.sheet)

    past : S.saves ≤ now.saves
    past = (marked held g 0).up

    right : moves_ok N.n W.domain m ≡ true
    right = go (moves_ok N.n W.domain m) refl
      where
        go : (b : Bool) → moves_ok N.n W.domain m ≡ b → moves_ok N.n W.domain m ≡ true
        go true e = e
        go false e = absurd (let k = save_11 U now S.saves m week_passes known past e in well (omega arith) (omega arith))

    -- and then it is 12 exactly if it is stale
    young_own : {b : Bool} → young ≡ b → fresh (pair_rules U) now.marks S.saves (moves_of m) ≡ b
    young_own e = ap (λ (R : Rules). fresh R now.marks S.saves (moves_of m)) rule ∙ e

    not_stale : young ≡ true → answer ≡ 12 → ⊥
    not_stale f e = go (result_ok (pair_rules U) now.order m) refl
      where
        go : (b : Bool) → result_ok (pair_rules U) now.order m ≡ b → ⊥
        go false r = let k = save_13 U now S.saves m week_passes known past right (young_own f) r in omega arith
        go true r = elim (dec_lt now.saves 65535) [
          | yes l ↦ let k = save_none U now S.saves m week_passes known past right (young_own f) r l in omega arith
          | no l ↦ let k = save_14 U now S.saves m week_passes known past right (young_own f) r (omega arith) in omega arith
        ]

    pub stale_then : answer ≡ 12 → Overtaken W S g m
    stale_then e = stale_why (false_of young (λ t. not_stale t e))

    pub stale_if : Overtaken W S g m → answer ≡ 12
    stale_if v = sym (save_12 U now S.saves m week_passes known past right (young_own (why_stale v)))
