-- Laws of the cut week. With every lot on it is the week; and one law, `.._shrink`, at each definition: what holds of more lots holds of fewer, in an order
-- that agrees on those. Assumes nothing.
use mathlib.Core.Path.{◌≡◌, refl, sym, ◌∙◌, ap, subst}
use mathlib.Core.Bool.{Bool, true, false, ◌&&◌, ◌||◌, cond, true≢false, and-true, and_self}
use mathlib.Core.List.{List, [], ◌∷◌, ◌++◌}
use mathlib.Core.Option.{Option, none, some}
use Prim.Native.Nat.{ℕ, zero, suc, ◌≤◌, ◌<◌}
use native.Mathlib.Decide.{dec_lt}
use native.Mathlib.Nat.{le_refl}
use native.Mathlib.Omega.{arith}
use lib.Dec.{eqb, ltb, leb}
use lib.ListN.{length, get_or}
use borrow.Author.Tests.{ltb-true, lt-ltb, leb-true, le-leb, eqb-true, eqb-false, ne_eqb}
use Rattle.lex.specs.Every.{imp, every, one_if, count, every_of}
use Rattle.lex.specs.First.{first, always, is_found}
use Rattle.lex.proofs.Every.{both, and_left, and_right, or_other, imp_in, imp_out, every_true, every_at, Closed, length_snoc, snoc_before}
use Rattle.lex.proofs.First.{first_some, first_none}
use Rattle.week.specs.declared.Numbers.{Numbers}
use Rattle.week.specs.Rules.{Rules, bit_of, in_domain, together, slot_stands, pair_stands, lot_stands, keeps}
use Rattle.week.specs.Tables.{Week, lots, pair_rules}
use Rattle.repair.specs.declared.Lost.{Lost}
use Rattle.pairs.specs.Pairs.{pair}
use Rattle.repair.specs.Break.{single, lost_sets, breaks, row_count}
use Rattle.repair.specs.Found.{lots_of}
use Rattle.repair.specs.Repair.{Case, case, may_go, moves, goes_at, moves_at, mends, repair_of}
use Rattle.robust.specs.Super.{row_sets, is_break, repair_for, safe, robust}
use Rattle.robust.proofs.Rows.{every_row}
use Rattle.robust.proofs.Super.{single_make, pair_make, sets_make}
use Rattle.cuts.specs.Cut.{whole, lot_stands_on, keeps_on, moves_on, mends_on, RepairsOn, mended_on, breaks_on, safe_on, robust_on}

-- With every lot on

pub keeps_whole : (R : Rules) (s : List ℕ) → keeps_on R whole s ≡ keeps R s
unfolding keeps_on lot_stands_on keeps lot_stands
keeps_whole R s = refl

pub mends_whole : (R : Rules) (C : Case) (r : List ℕ) → mends_on R C whole r ≡ mends R C r
unfolding mends_on moves_on keeps_on lot_stands_on mends keeps lot_stands
mends_whole R C r = refl

pub mended_whole : (R : Rules) (C : Case) → mended_on R C whole ≡ is_found (repair_of R C)
unfolding mended_on mends_on moves_on keeps_on lot_stands_on repair_of mends keeps lot_stands
mended_whole R C = refl

pub safe_whole : (W : Week) (s A : List ℕ) → safe_on W whole s A ≡ safe W s A
unfolding safe_on breaks_on mended_on mends_on moves_on keeps_on lot_stands_on safe is_break breaks repair_for repair_of mends keeps lot_stands
safe_whole W s A = refl

pub robust_whole : (W : Week) (s : List ℕ) → robust_on W whole s ≡ robust W s
unfolding robust_on safe_on breaks_on mended_on mends_on moves_on keeps_on lot_stands_on robust safe is_break breaks repair_for repair_of mends keeps lot_stands
robust_whole W s = refl

-- Fewer lots

-- of the n first lots those in `on` are in `more`, and t has them where s has them
abbrev pub Within : ℕ → (ℕ → Bool) → (ℕ → Bool) → List ℕ → List ℕ → Type 0
Within n on more s t = (p : ℕ) → p < n → on p ≡ true → (more p ≡ true) × (get_or t p 0 ≡ get_or s p 0)

-- The rules

-- `keeps_on` of the n first lots, lot by lot
pub record KeepsOn (R : Rules) (on : ℕ → Bool) (n : ℕ) (s : List ℕ) : Type 0 where
  pub domain : (p : ℕ) → p < n → on p ≡ true → in_domain R p (get_or s p 0) ≡ true
  pub pairs : (p q : ℕ) → p < n → q < n → on p ≡ true → on q ≡ true → (p ≡ q → ⊥) → together R p (get_or s p 0) q (get_or s q 0) ≡ true

module _ (R : Rules) (on : ℕ → Bool) (s : List ℕ) where
  abbrev slot_on : ℕ → Bool
  slot_on p = imp (on p) (slot_stands R s p)

  abbrev pair_on : ℕ → ℕ → Bool
  pair_on p q = imp (on q) (pair_stands R s p q)

  pub keeps_on_read : keeps_on R on s ≡ true → KeepsOn R on (length s) s
  unfolding keeps_on lot_stands_on slot_stands pair_stands
  keeps_on_read e = record {
    domain = λ p l o. imp_out (on p) (slot_stands R s p) (every_at slot_on (length s) p (and_left (every slot_on (length s)) (every (lot_stands_on R on s) (length s)) e) l) o;
    pairs = λ p q l m o u h. or_other (ne_eqb p q h) (imp_out (on q) (pair_stands R s p q) (every_at (pair_on p) (length s) q (imp_out (on p) (every (pair_on p) (length s)) (every_at (lot_stands_on R on s) (length s) p (and_right (every slot_on (length s)) (every (lot_stands_on R on s) (length s)) e) l) o) m) u);
  }

  pub keeps_on_make : KeepsOn R on (length s) s → keeps_on R on s ≡ true
  unfolding keeps_on lot_stands_on slot_stands pair_stands
  keeps_on_make k =
      both (every_true slot_on (length s) (λ p l. imp_in (on p) (slot_stands R s p) (k.domain p l)))
      (every_true (lot_stands_on R on s) (length s) (λ p l. imp_in (on p) (every (pair_on p) (length s)) (λ o. every_true (pair_on p) (length s) (λ q m. imp_in (on q) (pair_stands R s p q) (λ u. one p q l m o u (eqb p q) refl)))))
    where
      one : (p q : ℕ) → p < length s → q < length s → on p ≡ true → on q ≡ true → (b : Bool) → eqb p q ≡ b → (b || together R p (get_or s p 0) q (get_or s q 0)) ≡ true
      one p q l m o u true e = refl
      one p q l m o u false e = k.pairs p q l m o u (eqb-false p q e)

pub keeps_shrink : (R : Rules) (on more : ℕ → Bool) (s t : List ℕ) → length s ≤ length t → Within (length s) on more s t → keeps_on R more t ≡ true → keeps_on R on s ≡ true
keeps_shrink R on more s t h w e =
    let k = keeps_on_read R more t e in
    keeps_on_make R on s (record {
      domain = λ p l o. rw (w p l o).1 at (k.domain p (omega arith) (w p l o).0);
      pairs = λ p q l m o u d. rw ((w p l o).1, (w q m u).1) at (k.pairs p q (omega arith) (omega arith) (w p l o).0 (w q m u).0 d);
    })

-- Partial repairs

one_more : (a b : Bool) → (a ≡ true → b ≡ true) → one_if a ≤ one_if b
one_more true b h = rw (h refl) (omega arith)
one_more false b h = omega arith

-- fewer of fewer numbers pass a stronger test
pub count_fewer : (f g : ℕ → Bool) (n m : ℕ) → n ≤ m → ((p : ℕ) → p < n → f p ≡ true → g p ≡ true) → count f n ≤ count g m
unfolding count
count_fewer f g zero m h e = omega arith
count_fewer f g (suc n) zero h e = absurd (omega arith)
count_fewer f g (suc n) (suc m) h e = elim (dec_lt n m) [
  | yes l ↦ let a = count_fewer f g (suc n) m l e in omega arith
  | no l ↦ let a = count_fewer f g n m (omega arith) (λ p k. e p (omega arith)) in let b = one_more (f n) (g m) (λ t. subst (λ (p : ℕ). g p ≡ true) (omega arith) (e n (omega arith) t)) in omega arith
]

-- the parts of a partial repair
pub record MendsOn (R : Rules) (C : Case) (on : ℕ → Bool) (r : List ℕ) : Type 0 where
  pub keep : keeps_on R on r ≡ true
  pub go : (p : ℕ) → p < length r → on p ≡ true → may_go C p (get_or r p 0) ≡ true
  pub few : count (λ p. on p && moves C p (get_or r p 0)) (length r) ≤ C.numbers.b

module _ (R : Rules) (C : Case) (on : ℕ → Bool) (r : List ℕ) where
  abbrev go_on : ℕ → Bool
  go_on p = imp (on p) (goes_at C r p)

  pub mends_on_read : mends_on R C on r ≡ true → MendsOn R C on r
  unfolding mends_on goes_at moves_on moves_at
  mends_on_read e =
      let f = and_right (keeps_on R on r) (every go_on (length r) && leb (moves_on C on r) C.numbers.b) e in
      record {
        keep = and_left (keeps_on R on r) (every go_on (length r) && leb (moves_on C on r) C.numbers.b) e;
        go = λ p l o. imp_out (on p) (goes_at C r p) (every_at go_on (length r) p (and_left (every go_on (length r)) (leb (moves_on C on r) C.numbers.b) f) l) o;
        few = leb-true (moves_on C on r) C.numbers.b (and_right (every go_on (length r)) (leb (moves_on C on r) C.numbers.b) f);
      }

  pub mends_on_make : MendsOn R C on r → mends_on R C on r ≡ true
  unfolding mends_on goes_at moves_on moves_at
  mends_on_make m = both m.keep (both (every_true go_on (length r) (λ p l. imp_in (on p) (goes_at C r p) (m.go p l))) (le-leb (moves_on C on r) C.numbers.b m.few))

-- u is a partial repair where t stands, and r where s does
module _ (R : Rules) (N : Numbers) (g A : List ℕ) (on more : ℕ → Bool) (n : ℕ) (s t : List ℕ) (w : Within n on more s t) where
  go_same : (p v : ℕ) → p < n → on p ≡ true → may_go (case N g t A) p v ≡ may_go (case N g s A) p v
  unfolding may_go
  go_same p v l o = rw (w p l o).1

  moves_same : (p v : ℕ) → p < n → on p ≡ true → moves (case N g t A) p v ≡ moves (case N g s A) p v
  unfolding moves
  moves_same p v l o = rw (w p l o).1

  pub mends_shrink : (r u : List ℕ) → length r ≤ length u → length r ≤ n → Within (length r) on more r u → mends_on R (case N g t A) more u ≡ true → mends_on R (case N g s A) on r ≡ true
  mends_shrink r u h l x e =
      let m = mends_on_read R (case N g t A) more u e in
      let a = m.few in
      let b = count_fewer (λ p. on p && moves (case N g s A) p (get_or r p 0)) (λ p. more p && moves (case N g t A) p (get_or u p 0)) (length r) (length u) h still in
      mends_on_make R (case N g s A) on r (record {
        keep = keeps_shrink R on more r u h x m.keep;
        go = λ p i o. sym (go_same p (get_or r p 0) (omega arith) o) ∙ rw (x p i o).1 at (m.go p (omega arith) (x p i o).0);
        few = omega arith;
      })
    where
      still : (p : ℕ) → p < length r → (on p && moves (case N g s A) p (get_or r p 0)) ≡ true → (more p && moves (case N g t A) p (get_or u p 0)) ≡ true
      still p i z =
          let o = and_left (on p) (moves (case N g s A) p (get_or r p 0)) z in
          both (x p i o).0 (ap (moves (case N g t A) p) (x p i o).1 ∙ moves_same p (get_or r p 0) (omega arith) o ∙ and_right (on p) (moves (case N g s A) p (get_or r p 0)) z)

-- the beginnings of a partial repair are partial repairs
pub mends_closed : (R : Rules) (C : Case) (on : ℕ → Bool) → Closed (mends_on R C on)
mends_closed R C on pre v e =
    mends_shrink R C.numbers C.give C.lost on on (length pre) C.stands C.stands (λ p l o. (o, refl)) pre (pre ++ v ∷ [])
    (rw length_snoc (omega arith)) (le_refl (length pre)) (λ p l o. (o, snoc_before pre v p l)) e

-- a partial repair of more lots is one of fewer
pub repairs_fewer : (R : Rules) (C : Case) (on more : ℕ → Bool) → ((p : ℕ) → p < R.lots → on p ≡ true → more p ≡ true) → (r : List ℕ) → RepairsOn R C more r → RepairsOn R C on r
repairs_fewer R C on more h r q = record {
  len = q.len;
  under = q.under;
  good = mends_shrink R C.numbers C.give C.lost on more R.lots C.stands C.stands (λ p l o. (h p l o, refl)) r r (le_refl (length r)) (omega (arith, q.len)) (λ p l o. (h p (omega (arith, q.len)) o, refl)) q.good;
  final = refl;
}

-- `mended_on` says whether there is one
module _ (R : Rules) (C : Case) (on : ℕ → Bool) where
  pub mended_read : mended_on R C on ≡ true → (r : List ℕ) × RepairsOn R C on r
  unfolding mended_on
  mended_read e = go (first (mends_on R C on) always 16 R.lots) refl e
    where
      go : (o : Option (List ℕ)) → first (mends_on R C on) always 16 R.lots ≡ o → is_found o ≡ true → (r : List ℕ) × RepairsOn R C on r
      go none f e = absurd (true≢false (sym e))
      go (some r) f e = (r, first_some (mends_on R C on) always 16 (mends_closed R C on) R.lots r f)

  pub mended_make : (r : List ℕ) → RepairsOn R C on r → mended_on R C on ≡ true
  unfolding mended_on
  mended_make r m = go (first (mends_on R C on) always 16 R.lots) refl
    where
      go : (o : Option (List ℕ)) → first (mends_on R C on) always 16 R.lots ≡ o → is_found o ≡ true
      go none f = absurd (first_none (mends_on R C on) always 16 (mends_closed R C on) R.lots f r m)
      go (some u) f = refl

-- The sets of lots that rows stand for

abbrev pub below : ℕ → List ℕ → Bool
below n A = every_of (λ p. ltb p n) A

-- their lots are lots of the week
pub sets_below : (n a : ℕ) → every_of (below n) (lost_sets n a) ≡ true
unfolding single pair every_of
sets_below n a =
    sets_make (below n) n a
    (λ l. single_make (below n) n (λ p m. both (lt-ltb p n m) refl))
    (λ l. pair_make (below n) n (λ p q m i. both (lt-ltb p n (omega arith)) (both (lt-ltb q n i) refl)))

-- a test of every set, from another
every_of_both : (b f g : List ℕ → Bool) (l : List (List ℕ)) → ((A : List ℕ) → b A ≡ true → f A ≡ true → g A ≡ true) → every_of b l ≡ true → every_of f l ≡ true → every_of g l ≡ true
unfolding every_of
every_of_both b f g [] h d e = refl
every_of_both b f g (A ∷ l) h d e = both (h A (and_left (b A) (every_of b l) d) (and_left (f A) (every_of f l) e)) (every_of_both b f g l h (and_right (b A) (every_of b l) d) (and_right (f A) (every_of f l) e))

-- Breaks

module _ (W : Week) (on more : ℕ → Bool) (s t : List ℕ) (w : Within (lots W) on more s t) where
  pub mended_shrink : (A : List ℕ) → mended_on (pair_rules W) (case W.numbers W.give t A) more ≡ true → mended_on (pair_rules W) (case W.numbers W.give s A) on ≡ true
  mended_shrink A e =
      let m = mended_read (pair_rules W) (case W.numbers W.give t A) more e in
      let r = m.1 in
      mended_make (pair_rules W) (case W.numbers W.give s A) on m.0 (record {
        len = r.len;
        under = r.under;
        good = mends_shrink (pair_rules W) W.numbers W.give A on more (lots W) s t w m.0 m.0 (omega arith) (omega (arith, r.len)) (λ p l o. ((w p (omega (arith, r.len)) o).0, refl)) r.good;
        final = refl;
      })

  -- a break of fewer lots is one of more
  breaks_grow : (A : List ℕ) → below (lots W) A ≡ true → breaks_on W.loss on s A ≡ true → breaks_on W.loss more t A ≡ true
  unfolding breaks_on every_of
  breaks_grow [] b e = refl
  breaks_grow (p ∷ A) b e =
      let here = and_left (on p && bit_of (get_or W.loss p 0) (get_or s p 0)) (every_of (λ q. on q && bit_of (get_or W.loss q 0) (get_or s q 0)) A) e in
      let x = w p (ltb-true p (lots W) (and_left (ltb p (lots W)) (below (lots W) A) b)) (and_left (on p) (bit_of (get_or W.loss p 0) (get_or s p 0)) here) in
      both
      (both x.0 (rw x.1 (and_right (on p) (bit_of (get_or W.loss p 0) (get_or s p 0)) here)))
      (breaks_grow A (and_right (ltb p (lots W)) (below (lots W) A) b) (and_right (on p && bit_of (get_or W.loss p 0) (get_or s p 0)) (every_of (λ q. on q && bit_of (get_or W.loss q 0) (get_or s q 0)) A) e))

  pub safe_shrink : (A : List ℕ) → below (lots W) A ≡ true → safe_on W more t A ≡ true → safe_on W on s A ≡ true
  unfolding safe_on
  safe_shrink A b e =
      imp_in (breaks_on W.loss on s A) (mended_on (pair_rules W) (case W.numbers W.give s A) on)
      (λ x. mended_shrink A (imp_out (breaks_on W.loss more t A) (mended_on (pair_rules W) (case W.numbers W.give t A) more) e (breaks_grow A b x)))

  pub robust_shrink : robust_on W more t ≡ true → robust_on W on s ≡ true
  unfolding robust_on
  robust_shrink e = every_of_both (below (lots W)) (safe_on W more t) (safe_on W on s) (lost_sets (lots W) W.numbers.a) safe_shrink (sets_below (lots W) W.numbers.a) e

-- The tests as the code makes them

-- row by row
pub robust_rows : (W : Week) (on : ℕ → Bool) (s : List ℕ) → every (λ i. safe_on W on s (get_or (row_sets W) i [])) (row_count (lots W) W.numbers.a) ≡ robust_on W on s
unfolding robust_on row_count
robust_rows W on s = sym (every_row (safe_on W on s) (row_sets W))

module _ (W : Week) (on : ℕ → Bool) (s A : List ℕ) where
  -- the set is no break of the lots that are on
  pub safe_free : breaks_on W.loss on s A ≡ false → true ≡ safe_on W on s A
  unfolding safe_on
  safe_free e = rw e

  -- it is one, and `is` says whether it has a partial repair
  pub safe_mended : (is : Bool) → breaks_on W.loss on s A ≡ true → is ≡ mended_on (pair_rules W) (case W.numbers W.give s A) on → is ≡ safe_on W on s A
  unfolding safe_on
  safe_mended is e f = f ∙ rw e

-- its first and its last lot are on, and stand in slots of their loss words
pub breaks_both : (loss : List ℕ) (on : ℕ → Bool) (s : List ℕ) (L : Lost) → breaks_on loss on s (lots_of L) ≡ ((on L.0.0 && bit_of (get_or loss L.0.0 0) (get_or s L.0.0 0)) && (on L.1.0 && bit_of (get_or loss L.1.0 0) (get_or s L.1.0 0)))
unfolding breaks_on every_of lots_of single pair
breaks_both loss on s L = go (eqb L.0.0 L.1.0) refl
  where
    at : ℕ → Bool
    at p = on p && bit_of (get_or loss p 0) (get_or s p 0)

    go : (t : Bool) → eqb L.0.0 L.1.0 ≡ t → every_of at (cond t (L.0.0 ∷ []) (L.0.0 ∷ L.1.0 ∷ [])) ≡ (at L.0.0 && at L.1.0)
    go true e = rw (← eqb-true L.0.0 L.1.0 e, and_self, and-true)
    go false e = rw and-true
