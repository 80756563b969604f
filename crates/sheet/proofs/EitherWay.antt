-- Two accepted saves, the later from a copy older than the earlier: their lots and the ties between them are apart, so the other way
-- round both are accepted and the order is the same.
-- Assumes nothing.
use mathlib.Core.Path.{◌≡◌, refl, sym, ◌∙◌, ap}
use mathlib.Core.Bool.{Bool, true, false, not}
use mathlib.Core.List.{List}
use Prim.Native.Nat.{ℕ, ◌+◌, ◌≤◌, ◌<◌}
use native.Mathlib.Omega.{arith}
use lib.Dec.{eqb, leb}
use lib.ListN.{length, get_or, take}
use lib.Seq.{get_or-take, length-take-le}
use borrow.Author.Tests.{leb-true}
use Rattle.lex.specs.Every.{every_of}
use Rattle.lex.proofs.Every.{both, and_left, and_right, false_of, not_both, imp_in, imp_out, every_true, every_at}
use Rattle.week.specs.Rules.{Rules, in_domain, together, tied}
use Rattle.week.specs.Tables.{Week, lots, pair_rules}
use Rattle.week.proofs.Standing.{domain_below, keeps_read, keeps_make}
use Rattle.week.proofs.Tables.{accepted}
use Rattle.sheet.specs.declared.Sheet.{Sheet}
use Rattle.sheet.specs.Moves.{Move, moves_of, names, near, fresh_at, fresh_lot, fresh_move, fresh, stirs, placed_all}
use Rattle.sheet.specs.Sheet.{stands, result_ok, with_moves}
use Rattle.sheet.proofs.Services.{sound_good, Passed}
use Rattle.sheet.proofs.Placing.{every_named, every_over, placed_length, placed_other, placed_same, placed_either, marked_other}
use Rattle.sheet.proofs.Near.{untied, near_same, near_tied, near_mirror}
use Rattle.sheet.proofs.Held.{Held, held_taken}
use Rattle.sheet.proofs.Stale.{named_below, named_mark}

-- `stands`, lot by lot

record Standing (R : Rules) (s : List ℕ) : Type 0 where
  pub domain : (p : ℕ) → p < R.lots → in_domain R p (get_or s p 0) ≡ true
  pub pairs : (p q : ℕ) → p < R.lots → q < R.lots → (p ≡ q → ⊥) → together R p (get_or s p 0) q (get_or s q 0) ≡ true

module _ (R : Rules) (s : List ℕ) (long : R.lots ≤ length s) where
  stands_read : stands R s ≡ true → Standing R s
  unfolding stands
  stands_read e =
      let k = keeps_read R (take R.lots s) e in
      let n = length-take-le R.lots s long in
      record {
        domain = λ p l. rw (get_or-take R.lots s p 0 l) at (k.domain p (omega arith));
        pairs = λ p q l m h. rw (get_or-take R.lots s p 0 l, get_or-take R.lots s q 0 m) at (k.pairs p q (omega arith) (omega arith) h);
      }

  stands_make : Standing R s → stands R s ≡ true
  unfolding stands
  stands_make k =
      let n = length-take-le R.lots s long in
      keeps_make R (take R.lots s) (record {
        domain = λ p l. rw (get_or-take R.lots s p 0 (omega arith)) (k.domain p (omega arith));
        pairs = λ p q l m h. rw (get_or-take R.lots s p 0 (omega arith), get_or-take R.lots s q 0 (omega arith)) (k.pairs p q (omega arith) (omega arith) h);
      })

-- a mark that is fresh, and one that is the same where it counts

module _ (R : Rules) (c p q : ℕ) where
  fresh_read : (marks : List ℕ) → fresh_at R marks c p q ≡ true → near R p q ≡ true → get_or marks q 0 ≤ c
  unfolding fresh_at
  fresh_read marks e f = leb-true (get_or marks q 0) c (imp_out (near R p q) (leb (get_or marks q 0) c) e f)

  fresh_over : (marks others : List ℕ) → (near R p q ≡ true → get_or marks q 0 ≡ get_or others q 0) → fresh_at R marks c p q ≡ true → fresh_at R others c p q ≡ true
  unfolding fresh_at
  fresh_over marks others h e = imp_in (near R p q) (leb (get_or others q 0) c) (λ f. sym (ap (λ (v : ℕ). leb v c) (h f)) ∙ imp_out (near R p q) (leb (get_or marks q 0) c) e f)

stirs_over : (s t : List ℕ) (x : Move) → get_or s x.lot 0 ≡ get_or t x.lot 0 → stirs s x ≡ true → stirs t x ≡ true
unfolding stirs
stirs_over s t x h e = sym (ap (λ (v : ℕ). not (eqb v x.slot)) h) ∙ e

fresh_all : (R : Rules) (marks others : List ℕ) (c : ℕ) (l : List Move) → ((x : Move) (q : ℕ) → names l x.lot ≡ true → q < R.lots → near R x.lot q ≡ true → get_or marks q 0 ≡ get_or others q 0) → fresh R marks c l ≡ true → fresh R others c l ≡ true
unfolding fresh fresh_move fresh_lot
fresh_all R marks others c l h e = every_over (fresh_move R marks c) (fresh_move R others c) l (λ x n f. every_true (fresh_at R others c x.lot) R.lots (λ q m. fresh_over R c x.lot q marks others (h x q n m) (every_at (fresh_at R marks c x.lot) R.lots q f m))) e

stirs_all : (s t : List ℕ) (l : List Move) → ((p : ℕ) → names l p ≡ true → get_or s p 0 ≡ get_or t p 0) → every_of (stirs s) l ≡ true → every_of (stirs t) l ≡ true
stirs_all s t l h e = every_over (stirs s) (stirs t) l (λ x n f. stirs_over s t x (h x.lot n) f) e

-- the save with moves k from copy a, then the one with moves l from copy b, a copy older than the first save
module _ {W : Week} {S : Sheet} (held : Held W S) (a : ℕ) (k : List ℕ) (b : ℕ) (l : List ℕ) (earlier : Passed W S a k) (later : Passed W (with_moves S k) b l) (old : b ≤ S.saves) where
  abbrev R : Rules
  R = pair_rules W

  abbrev K : List Move
  K = moves_of k

  abbrev L : List Move
  L = moves_of l

  abbrev s : List ℕ
  s = S.order

  -- a lot that the later save names, and one tied to it, are none of the earlier's
  apart : (p q : ℕ) → names L p ≡ true → q < lots W → near R p q ≡ true → names K q ≡ false
  unfolding fresh fresh_move fresh_lot
  apart p q e m f = false_of (names K q) (λ t.
      let g = every_at (fresh_at R (with_moves S k).marks b p) (lots W) q (every_named (fresh_move R (with_moves S k).marks b) L p later.young e).passes m in
      let low = fresh_read R b p q (with_moves S k).marks g f in
      let high = named_mark held a k earlier q t in
      omega arith)

  below_k : (p : ℕ) → names K p ≡ true → p < lots W
  below_k p e = named_below held a k earlier p e

  below_l : (p : ℕ) → names L p ≡ true → p < lots W
  below_l p e = named_below (held_taken held a k earlier) b l later p e

  not_k : (p : ℕ) → names L p ≡ true → names K p ≡ false
  not_k p e = apart p p e (below_l p e) (near_same R p)

  not_l : (p : ℕ) → names K p ≡ true → names L p ≡ false
  not_l p e = false_of (names L p) (λ t. not_both e (not_k p t))

  -- and a lot that the earlier save names, and one tied to it, are none of the later's
  apart_back : (p q : ℕ) → names K p ≡ true → q < lots W → near R p q ≡ true → names L q ≡ false
  apart_back p q e m f = false_of (names L q) (λ t. not_both e (apart q p t (below_k p e) (near_mirror R (accepted W held.week).symmetric p q (below_k p e) m f)))

  long : (t : List ℕ) → length t ≡ 24 → lots W ≤ length t
  long t e = let f = (accepted W held.week).limits.few in omega arith

  place : (p : ℕ) → p < lots W → (t : List ℕ) → length t ≡ 24 → p < length t
  place p m t e = let f = (accepted W held.week).limits.few in omega arith

  -- the order after both, the order before, and the order after the later save alone
  both_placed : Standing R (placed_all L (placed_all K s))
  unfolding result_ok with_moves
  both_placed = stands_read R (placed_all L (placed_all K s)) (long (placed_all L (placed_all K s)) (placed_length L (placed_all K s) ∙ (placed_length K s ∙ held.places)))
      (and_right (every_of (stirs (placed_all K s)) L) (stands R (placed_all L (placed_all K s))) later.result)

  none_placed : Standing R s
  none_placed = stands_read R s (long s held.places) held.sheet.order

  named_slot : (p : ℕ) → p < lots W → names L p ≡ true → get_or (placed_all L s) p 0 ≡ get_or (placed_all L (placed_all K s)) p 0
  named_slot p m e = placed_same L s (placed_all K s) p (place p m s held.places) (place p m (placed_all K s) (placed_length K s ∙ held.places)) e

  -- a lot of the later save beside one of none of its moves
  mixed : (p q : ℕ) → p < lots W → q < lots W → (p ≡ q → ⊥) → names L p ≡ true → names L q ≡ false → together R p (get_or (placed_all L s) p 0) q (get_or s q 0) ≡ true
  mixed p q m n h e f = rw (named_slot p m e) (go (tied R p q) refl)
    where
      u : List ℕ
      u = placed_all L (placed_all K s)

      stays : names K q ≡ false → get_or u q 0 ≡ get_or s q 0
      stays g = placed_other L (placed_all K s) q f ∙ placed_other K s q g

      go : (t : Bool) → tied R p q ≡ t → together R p (get_or u p 0) q (get_or s q 0) ≡ true
      go true t = rw (stays (apart p q e n (near_tied R p q t))) at (both_placed.pairs p q m n h)
      go false t = untied R p q (get_or u p 0) (get_or s q 0) h t (both_placed.domain p m) (none_placed.domain q n)

  later_placed : Standing R (placed_all L s)
  later_placed = record { domain = λ p m. inside p m (names L p) refl; pairs = λ p q m n h. pair p q m n h (names L p) (names L q) refl refl }
    where
      t : List ℕ
      t = placed_all L s

      inside : (p : ℕ) → p < lots W → (x : Bool) → names L p ≡ x → in_domain R p (get_or t p 0) ≡ true
      inside p m true e = rw (named_slot p m e) (both_placed.domain p m)
      inside p m false e = rw (placed_other L s p e) (none_placed.domain p m)

      mirror : (p q : ℕ) → p < lots W → q < lots W → (v w : ℕ) → in_domain R p v ≡ true → in_domain R q w ≡ true → together R q w p v ≡ true → together R p v q w ≡ true
      mirror p q m n v w d e f = (accepted W held.week).symmetric p v q w m (domain_below R p v d) n (domain_below R q w e) ∙ f

      pair : (p q : ℕ) → p < lots W → q < lots W → (p ≡ q → ⊥) → (x y : Bool) → names L p ≡ x → names L q ≡ y → together R p (get_or t p 0) q (get_or t q 0) ≡ true
      pair p q m n h true true e f = rw (named_slot p m e, named_slot q n f) (both_placed.pairs p q m n h)
      pair p q m n h false false e f = rw (placed_other L s p e, placed_other L s q f) (none_placed.pairs p q m n h)
      pair p q m n h true false e f = rw (placed_other L s q f) (mixed p q m n h e f)
      pair p q m n h false true e f = rw (placed_other L s p e) (mirror p q m n (get_or s p 0) (get_or t q 0) (none_placed.domain p m) (inside q n true f) (mixed q p n m (λ z. h (sym z)) f e))

  -- the later save, first
  pub first_passed : Passed W S b l
  unfolding result_ok with_moves
  first_passed = record {
    week = earlier.week;
    sheet = earlier.sheet;
    copy = old;
    moves = later.moves;
    young = fresh_all R (with_moves S k).marks S.marks b L (λ x q n m f. marked_other (S.saves + 1) K S.marks q (apart x.lot q n m f)) later.young;
    result = both
        (stirs_all (placed_all K s) s L (λ p e. placed_other K s p (not_k p e)) (and_left (every_of (stirs (placed_all K s)) L) (stands R (placed_all L (placed_all K s))) later.result))
        (stands_make R (placed_all L s) (long (placed_all L s) (placed_length L s ∙ held.places)) later_placed);
    room = earlier.room;
  }

  either : placed_all K (placed_all L s) ≡ placed_all L (placed_all K s)
  either = placed_either K L s not_l

  -- and the earlier after it
  pub second_passed : Passed W (with_moves S l) a k
  unfolding result_ok with_moves
  second_passed = record {
    week = earlier.week;
    sheet = sym (sound_good R (with_moves S l) (held_taken held b l first_passed).sheet);
    copy = let c = earlier.copy in omega arith;
    moves = earlier.moves;
    young = fresh_all R S.marks (with_moves S l).marks a K (λ x q n m f. sym (marked_other (S.saves + 1) L S.marks q (apart_back x.lot q n m f))) earlier.young;
    result = both
        (stirs_all s (placed_all L s) K (λ p e. sym (placed_other L s p (not_l p e))) (and_left (every_of (stirs s) K) (stands R (placed_all K s)) earlier.result))
        (ap (stands R) either ∙ and_right (every_of (stirs (placed_all K s)) L) (stands R (placed_all L (placed_all K s))) later.result);
    room = later.room;
  }

  pub same_order : (with_moves (with_moves S l) k).order ≡ (with_moves (with_moves S k) l).order
  unfolding with_moves
  same_order = either

pub same_saves : (S : Sheet) (k l : List ℕ) → (with_moves (with_moves S l) k).saves ≡ (with_moves (with_moves S k) l).saves
unfolding with_moves
same_saves S k l = refl
