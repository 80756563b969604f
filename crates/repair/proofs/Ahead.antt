-- Laws of the lots that must move: every beginning of a repair leads on, so a search by `leads` finds the same repair; and the count
-- of the later lots, lot by lot. Assumes nothing.
use mathlib.Core.Path.{◌≡◌, refl, sym, ◌∙◌, ap, ap₂}
use mathlib.Core.Bool.{Bool, true, false, ◌&&◌, not, or-true, and-false}
use mathlib.Core.Logic.{⊎_elim}
use mathlib.Core.List.{List, [], ◌∷◌, ◌++◌}
use Prim.Native.Nat.{ℕ, zero, suc, ◌+◌, ◌≤◌, ◌<◌}
use native.Mathlib.Omega.{arith}
use native.Mathlib.Nat.{le_refl, eq-or-lt_of_le}
use lib.Dec.{leb, ltb, eqb}
use lib.ListN.{get_or, length, take}
use lib.Seq.{get_or-append_seam, get_or-take, length-take-le}
use borrow.Author.Tests.{ltb-true, le-ltb, leb-true, le-leb, lt-leb, eqb-true, not-true, not-false}
use Rattle.lex.specs.Every.{imp, every, one_if, count}
use Rattle.lex.specs.First.{Passes, always}
use Rattle.lex.proofs.Every.{both, and_left, and_right, or_other, not_both, imp_in, every_true, every_false, every_cong, every_step, count_cong, count_step, Snoc, Local, every_snoc, snoc_closed, snoc_link, snoc_and, snoc_before}
use Rattle.lex.proofs.Search.{Space}
use Rattle.week.specs.Rules.{Rules, bit_of, beside, fits}
use Rattle.week.proofs.Standing.{fits_beside}
use Rattle.repair.specs.Repair.{Case, is_lost, yields, helps, may_go, moves, goes_at, moves_at, mends_half, mends_at, stays, stays_at, must_move, may_move, few_ahead, ahead, ahead_at, leads, leads_at}
use Rattle.repair.proofs.Mends.{half_snoc, half_low, half_nil, half_parts, at_take}

-- Counts

one_if_imp : (x y : Bool) → (x ≡ true → y ≡ true) → one_if x ≤ one_if y
one_if_imp true y h = rw (h refl) (le_refl 1)
one_if_imp false y h = omega arith

count_none : (f : ℕ → Bool) (n : ℕ) → ((k : ℕ) → k < n → f k ≡ false) → count f n ≡ 0
unfolding count
count_none f zero h = refl
count_none f (suc n) h = rw (count_none f n (λ k l. h k (omega arith)), h n (omega arith))

count_up : (f : ℕ → Bool) (i n : ℕ) → i ≤ n → count f i ≤ count f n
unfolding count
count_up f i zero h = let e : i ≡ 0 = omega arith in rw e (le_refl 0)
count_up f i (suc n) h =
    ⊎_elim (λ (e : i ≡ suc n). rw e (le_refl (count f n + one_if (f n)))) (λ (l : i < suc n). let a = count_up f i n (omega arith) in omega arith)
    (eq-or-lt_of_le h)

-- what passes g passes f, and none below a does: g adds to the f below a
count_apart : (f g : ℕ → Bool) (a n : ℕ) → a ≤ n → ((k : ℕ) → k < a → g k ≡ false) → ((k : ℕ) → k < n → g k ≡ true → f k ≡ true) → count f a + count g n ≤ count f n
unfolding count
count_apart f g a zero h low high = let e : a ≡ 0 = omega arith in rw e (le_refl 0)
count_apart f g a (suc n) h low high =
    ⊎_elim
    (λ (e : a ≡ suc n). let z = count_none g n (λ k l. low k (omega arith)) in rw (e, low n (omega arith)) (omega arith))
    (λ (l : a < suc n). let i = count_apart f g a n (omega arith) low (λ k m. high k (omega arith)) in let j = one_if_imp (g n) (f n) (high n (omega arith)) in omega arith)
    (eq-or-lt_of_le h)

-- A repair leads on from each of its lots

module _ (R : Rules) (C : Case) where
  pub must_later : (r : List ℕ) (p v q : ℕ) → q ≤ p → must_move R C r p v q ≡ false
  unfolding must_move
  must_later r p v q h = rw (le-ltb p q h)

  -- the parts of a lot that must move
  record Must (r : List ℕ) (p v q : ℕ) : Type 0 where
    pub later : p < q
    pub kept : is_lost C.lost q ≡ false
    pub clash : (stays R C q p v && every (stays_at R C r q) p) ≡ false

  must_read : (r : List ℕ) (p v q : ℕ) → must_move R C r p v q ≡ true → Must r p v q
  unfolding must_move
  must_read r p v q e =
      let f = and_right (ltb p q) (not (is_lost C.lost q) && not (stays R C q p v && every (stays_at R C r q) p)) e in
      record {
        later = ltb-true p q (and_left (ltb p q) (not (is_lost C.lost q) && not (stays R C q p v && every (stays_at R C r q) p)) e);
        kept = not-true _ (and_left (not (is_lost C.lost q)) (not (stays R C q p v && every (stays_at R C r q) p)) f);
        clash = not-true _ (and_right (not (is_lost C.lost q)) (not (stays R C q p v && every (stays_at R C r q) p)) f);
      }

  module _ (l : List ℕ) (e : mends_half R C l ≡ true) where
    -- a lot that is not lost and does not move stands beside the lots before it
    still : (q : ℕ) → q < length l → is_lost C.lost q ≡ false → moves_at C l q ≡ false → get_or C.stands q 0 ≡ get_or l q 0
    unfolding moves_at moves
    still q h f g = eqb-true _ _ (not-false _ (rw f at g))

    beside_still : (q u : ℕ) → q < length l → u < q → get_or C.stands q 0 ≡ get_or l q 0 → stays_at R C l q u ≡ true
    unfolding stays_at stays beside
    beside_still q u h m f = rw (f, fits_beside R l q (get_or l q 0) ((half_parts R C l e).fit q h) u m) (or-true (eqb (get_or C.stands u 0) (get_or l u 0)))

    must_moves : (p q : ℕ) → q < length l → must_move R C l p (get_or l p 0) q ≡ true → moves_at C l q ≡ true
    unfolding stays_at
    must_moves p q h m = go (moves_at C l q) refl
      where
        w : Must l p (get_or l p 0) q
        w = must_read l p (get_or l p 0) q m

        go : (t : Bool) → moves_at C l q ≡ t → t ≡ true
        go true f = refl
        go false f =
            let s = still q h w.kept f in
            absurd (not_both (both (beside_still q p h w.later s) (every_true (stays_at R C l q) p (λ u k. beside_still q u h (let z = w.later in omega arith) s))) w.clash)

    must_gives : (p q : ℕ) → q < length l → must_move R C l p (get_or l p 0) q ≡ true → bit_of (get_or C.give q 0) (get_or C.stands q 0) ≡ true
    unfolding goes_at may_go yields moves_at moves
    must_gives p q h m =
        let w = must_read l p (get_or l p 0) q m in
        let g = and_right (helps C.numbers (get_or C.stands q 0) (get_or l q 0)) _ ((half_parts R C l e).go q h) in
        or_other {a = eqb (get_or C.stands q 0) (get_or l q 0)} {b = bit_of (get_or C.give q 0) (get_or C.stands q 0)} (not-true _ (and_right (not (is_lost C.lost q)) (not (eqb (get_or C.stands q 0) (get_or l q 0))) (must_moves p q h m))) (rw w.kept at g)

    few_moves : length l ≡ R.lots → (p : ℕ) → p < length l → count (moves_at C l) p + one_if (moves_at C l p) + count (must_move R C l p (get_or l p 0)) R.lots ≤ C.numbers.b
    few_moves n p h =
        let a = count_step (moves_at C l) p in
        let b = count_apart (moves_at C l) (must_move R C l p (get_or l p 0)) (p + 1) R.lots (omega arith) (λ q k. must_later l p (get_or l p 0) q (omega arith)) (λ q k. must_moves p q (omega arith)) in
        let d = rw n at (half_parts R C l e).few in
        omega arith

    few_ahead_lem : length l ≡ R.lots → (p : ℕ) → p < length l → few_ahead R C l p (get_or l p 0) ≡ true
    unfolding few_ahead may_move moves_at
    few_ahead_lem n p h =
        both (every_true (may_move R C l p (get_or l p 0)) R.lots (λ q k. imp_in _ _ (must_gives p q (omega arith))))
        (le-leb (count (moves_at C l) p + one_if (moves C p (get_or l p 0)) + count (must_move R C l p (get_or l p 0)) R.lots) C.numbers.b (few_moves n p h))

    ahead_here : length l ≡ R.lots → (p : ℕ) → p < length l → ahead_at R C l p ≡ true
    unfolding ahead_at ahead
    ahead_here n p h = rw (few_ahead_lem n p h) (or-true (eqb (get_or C.stands p 0) (get_or l p 0)))

    pub half_leads : length l ≡ R.lots → leads R C l ≡ true
    unfolding leads
    half_leads n = both e (every_true (ahead_at R C l) (length l) (ahead_here n))

  -- Only the slots of the lots before p count

  must_cong : (s t : List ℕ) (p v q : ℕ) → ((u : ℕ) → u < p → get_or s u 0 ≡ get_or t u 0) → must_move R C s p v q ≡ must_move R C t p v q
  unfolding must_move stays_at
  must_cong s t p v q h = rw (every_cong (stays_at R C s q) (stays_at R C t q) p (λ u l. ap (stays R C q u) (h u l)))

  ahead_cong : (s t : List ℕ) (p v : ℕ) → ((u : ℕ) → u < p → get_or s u 0 ≡ get_or t u 0) → ahead R C s p v ≡ ahead R C t p v
  unfolding ahead few_ahead may_move moves_at
  ahead_cong s t p v h =
      rw (
        every_cong (may_move R C s p v) (may_move R C t p v) R.lots (λ q l. ap (λ (b : Bool). imp b (bit_of (get_or C.give q 0) (get_or C.stands q 0))) (must_cong s t p v q h)),
        count_cong (moves_at C s) (moves_at C t) p (λ q l. ap (moves C q) (h q l)),
        count_cong (must_move R C s p v) (must_move R C t p v) R.lots (λ q l. must_cong s t p v q h),
      )

  -- One lot more

  here_local : Local (ahead_at R C)
  unfolding ahead_at
  here_local s t p h = rw (h p (le_refl p)) (ahead_cong s t p (get_or t p 0) (λ q l. h q (omega arith)))

  here_snoc : Snoc (λ r. every (ahead_at R C r) (length r)) (λ pre v. ahead R C pre (length pre) v)
  unfolding ahead_at
  here_snoc pre v = every_snoc (ahead_at R C) here_local pre v ∙ rw (get_or-append_seam, ahead_cong (pre ++ v ∷ []) pre (length pre) v (snoc_before pre v))

  leads_snoc : Snoc (leads R C) (λ pre v. leads_at R C pre (length pre) v)
  unfolding leads leads_at
  leads_snoc =
      snoc_and (mends_half R C) (λ r. every (ahead_at R C r) (length r)) (λ pre v. mends_at R C pre (length pre) v) (λ pre v. ahead R C pre (length pre) v)
      (half_snoc R C) here_snoc

  leads_take : (s : List ℕ) (d v : ℕ) → d ≤ length s → leads_at R C (take d s) (length (take d s)) v ≡ leads_at R C s d v
  unfolding leads_at
  leads_take s d v h = ap₂ ◌&&◌ (at_take R C s d v h) (rw (length-take-le d s h) (ahead_cong (take d s) s d v (λ q l. get_or-take d s q 0 l)))

  -- the test of a slot, on a list whose first d places are the repair so far
  pub leads_link : (s : List ℕ) (d : ℕ) → d ≤ length s → leads R C (take d s) ≡ true → (v : ℕ) → leads R C (take d s ++ v ∷ []) ≡ leads_at R C s d v
  leads_link s d h e v = snoc_link (leads R C) (λ pre v. leads_at R C pre (length pre) v) leads_snoc (take d s) e v ∙ leads_take s d v h

  pub leads_nil : leads R C [] ≡ true
  unfolding leads every
  leads_nil = both (half_nil R C) refl

  -- what leads on mends so far
  pub leads_half : (r : List ℕ) → leads R C r ≡ true → mends_half R C r ≡ true
  unfolding leads
  leads_half r e = and_left (mends_half R C r) (every (ahead_at R C r) (length r)) e

  -- the repairs, searched by `leads`
  pub leads_space : Space (Passes (mends_half R C) always 16 R.lots) R.lots 16 (leads R C)
  leads_space = record {
    len = λ l q. q.len;
    passes = λ l q. half_leads l q.good q.len;
    closed = snoc_closed (leads R C) (λ pre v. leads_at R C pre (length pre) v) leads_snoc;
    below = λ l e. half_low R C l (leads_half l e);
  }

-- A lot that stays where r has the lot before it

pub stays_here : (R : Rules) (C : Case) (r : List ℕ) (q u x : ℕ) (t : Bool) → x ≡ get_or r u 0 → t ≡ stays R C q u x → t ≡ stays_at R C r q u
unfolding stays_at
stays_here R C r q u x t e f = f ∙ ap (stays R C q u) e

-- The later lots, lot after lot: `moved` lots up to p move, and with those of the lots before q that must, they are `all`

pub record Run (R : Rules) (C : Case) (r : List ℕ) (p v moved all q : ℕ) : Type 0 where
  pub after : p < q
  pub low : q ≤ R.lots
  pub may : every (may_move R C r p v) q ≡ true
  pub counted : all ≡ moved + count (must_move R C r p v) q
  pub most : all ≤ C.numbers.b

pub run_start : (R : Rules) (C : Case) (r : List ℕ) (p v moved : ℕ) → p < R.lots → moved ≤ C.numbers.b → Run R C r p v moved moved (p + 1)
unfolding may_move
run_start R C r p v moved h m = record {
  after = omega arith;
  low = omega arith;
  may = every_true (may_move R C r p v) (p + 1) (λ q l. rw (must_later R C r p v q (omega arith)));
  counted = let z = count_none (must_move R C r p v) (p + 1) (λ q l. must_later R C r p v q (omega arith)) in omega arith;
  most = m;
}

-- the lot in turn: `must` is whether it must move
module _ {R : Rules} {C : Case} {r : List ℕ} {p v moved all q : ℕ} (s : Run R C r p v moved all q) {must : Bool} (h : q < R.lots) (here : must ≡ must_move R C r p v q) where
  pub run_stays : (next : ℕ) → must ≡ false → next ≡ all → Run R C r p v moved next (q + 1)
  unfolding may_move
  run_stays next e f = record {
    after = omega (arith, s.after);
    low = omega arith;
    may = every_step (may_move R C r p v) q s.may (rw (← here, e));
    counted = rw (count_step (must_move R C r p v) q, ← here, e) (omega (arith, s.counted));
    most = omega (arith, s.most);
  }

  pub run_moves : (next : ℕ) → must ≡ true → all < C.numbers.b → bit_of (get_or C.give q 0) (get_or C.stands q 0) ≡ true → next ≡ all + 1 → Run R C r p v moved next (q + 1)
  unfolding may_move
  run_moves next e l g f = record {
    after = omega (arith, s.after);
    low = omega arith;
    may = every_step (may_move R C r p v) q s.may (rw (← here, e, g));
    counted = rw (count_step (must_move R C r p v) q, ← here, e) (omega (arith, s.counted));
    most = omega arith;
  }

  pub run_fixed : must ≡ true → bit_of (get_or C.give q 0) (get_or C.stands q 0) ≡ false → false ≡ few_ahead R C r p v
  unfolding few_ahead may_move
  run_fixed e g = rw (every_false (may_move R C r p v) R.lots q h (rw (← here, e, g)))

  pub run_many : moved ≡ count (moves_at C r) p + one_if (moves C p v) → must ≡ true → C.numbers.b ≤ all → false ≡ few_ahead R C r p v
  unfolding few_ahead
  run_many k e l = rw (← k, lt-leb (moved + count (must_move R C r p v) R.lots) C.numbers.b over) (sym (and-false (every (may_move R C r p v) R.lots)))
    where
      step : count (must_move R C r p v) (q + 1) ≡ count (must_move R C r p v) q + 1
      step = rw (count_step (must_move R C r p v) q, ← here, e)

      over : C.numbers.b < moved + count (must_move R C r p v) R.lots
      over = omega (arith, count_up (must_move R C r p v) (q + 1) R.lots (omega arith), s.counted, step)

-- no lot is left
pub run_done : {R : Rules} {C : Case} {r : List ℕ} {p v moved all q : ℕ} → Run R C r p v moved all q → moved ≡ count (moves_at C r) p + one_if (moves C p v) → R.lots ≤ q → true ≡ few_ahead R C r p v
unfolding few_ahead
run_done {R} {C} {r} {p} {v} {moved} {all} {q} s k h =
    let e : q ≡ R.lots = omega (arith, s.low) in
    let m = ap (count (must_move R C r p v)) e in
    sym (both (ap (every (may_move R C r p v)) (sym e) ∙ s.may) (rw (← k) (le-leb (moved + count (must_move R C r p v) R.lots) C.numbers.b (omega (arith, s.counted, s.most)))))

-- Slot v for lot p

module _ (R : Rules) (C : Case) (r : List ℕ) (p v : ℕ) where
  pub lead_few : mends_at R C r p v ≡ true → count (moves_at C r) p + one_if (moves C p v) ≤ C.numbers.b
  unfolding mends_at
  lead_few e =
      leb-true _ _
      (and_right (may_go C p v) (leb (count (moves_at C r) p + one_if (moves C p v)) C.numbers.b)
      (and_right (fits R r p v) (may_go C p v && leb (count (moves_at C r) p + one_if (moves C p v)) C.numbers.b) e))
