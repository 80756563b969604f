-- A lot loop as its proof sees it: a list s whose first d places are chosen, and the next number to try in place d. One record for the
-- invariant, one for a turn of the loop, and a law for each way through the loop's body. Assumes nothing.
use mathlib.Core.Path.{◌≡◌, sym, ◌∙◌}
use mathlib.Core.Bool.{Bool, true}
use mathlib.Core.List.{List, [], ◌∷◌, ◌++◌}
use mathlib.Core.Option.{none, some}
use Prim.Native.Nat.{ℕ, zero, suc, ◌+◌, ◌-◌, ◌≤◌, ◌<◌}
use native.Mathlib.Numerals.{add-one}
use native.Mathlib.Nat.{le_antisymm, le_refl, sub-zero, zero-sub, suc-sub-suc}
use native.Mathlib.Omega.{arith}
use lib.ListN.{length, get_or, take, drop, set, replicate, length-set, length-replicate, take-append-drop}
use lib.Seq.{take-suc, take-suc-set, take-set-le, drop-set-lt, get_or-take, length-take-le}
use Rattle.lex.specs.Dictionary.{Meets}
use Rattle.lex.specs.Lists.{padded}
use Rattle.lex.specs.Scan.{scan_from}
use Rattle.lex.proofs.Scan.{Picked, scan_picked}
use Rattle.lex.proofs.Search.{Space, Reached, reach_start, reach_skip, reach_deeper, reach_back, reach_none, reach_found, reach_reject, left, left_deeper, left_back, left_skip, left_set}

-- the loop's invariant; the list has room for m numbers, of which the n first count and the rest are 0
pub record State (Q : List ℕ → Type 0) (n m k : ℕ) (ok : List ℕ → Bool) (s : List ℕ) (d from : ℕ) : Type 0 where
  pub depth : d < n
  pub room : n ≤ m
  pub size : length s ≡ m
  pub rest : drop n s ≡ replicate (m - n) 0
  pub bound : from ≤ k
  pub good : ok (take d s) ≡ true
  pub reached : Reached Q (take d s) from

pub drop_replicate : (n m a : ℕ) → drop n (replicate m a) ≡ replicate (m - n) a
drop_replicate zero m a = rw sub-zero
drop_replicate (suc n) zero a = rw zero-sub
drop_replicate (suc n) (suc m) a = rw suc-sub-suc (drop_replicate n m a)

pub state_start : {Q : List ℕ → Type 0} {n k : ℕ} {ok : List ℕ → Bool} → Space Q n k ok → (m : ℕ) → 0 < n → n ≤ m → ok [] ≡ true → State Q n m k ok (replicate m 0) 0 0
state_start {Q} {n} {k} {ok} S m h r e = record {
  depth = h;
  room = r;
  size = length-replicate m 0;
  rest = drop_replicate n m 0;
  bound = omega arith;
  good = e;
  reached = reach_start Q n k ok S h;
}

-- one turn of the loop: the state, and the number v that the scan of place d gives, where the scan's test is the test of the list with that number
pub record Turn (Q : List ℕ → Type 0) (n m k : ℕ) (ok : List ℕ → Bool) (s : List ℕ) (d from v : ℕ) : Type 0 where
  pub space : Space Q n k ok
  pub state : State Q n m k ok s d from
  pub test : ℕ → Bool
  pub link : (j : ℕ) → ok (take d s ++ j ∷ []) ≡ test j
  pub chosen : v ≡ scan_from k test from

module _ {Q : List ℕ → Type 0} {n m k : ℕ} {ok : List ℕ → Bool} {s : List ℕ} {d from v : ℕ} (t : Turn Q n m k ok s d from v) where
  inside : d < length s
  inside = omega (arith, t.state.depth, t.state.room, t.state.size)

  picked : Picked k t.test from v
  picked = rw t.chosen (scan_picked k t.test from t.state.bound)

  passed : Reached Q (take d s) v
  passed = reach_skip Q n k ok t.space (take d s) from v t.state.reached (λ j l h. t.link j ∙ picked.miss j l h)

  stored : v < k → ok (take (d + 1) (set s d v)) ≡ true
  stored h = rw (add-one, take-suc-set s d v inside) (t.link v ∙ picked.hit h)

  kept : drop n (set s d v) ≡ replicate (m - n) 0
  kept = drop-set-lt n s d v t.state.depth ∙ t.state.rest

  -- a number was found, and there are places left
  pub turn_deeper : v < k → d + 1 < n → State Q n m k ok (set s d v) (d + 1) 0
  turn_deeper h l = record {
    depth = l;
    room = t.state.room;
    size = length-set s d v ∙ t.state.size;
    rest = kept;
    bound = omega arith;
    good = stored h;
    reached = reach_deeper Q n k ok t.space s d v inside l passed;
  }

  pub turn_deeper_less : v < k → d + 1 < n → left k n (set s d v) (d + 1) 0 < left k n s d from
  turn_deeper_less h l = left_deeper k n s d from v (picked.low h) h inside l

  -- a number was found for the last place: the list is as long as it should be, is 0 beyond, and passes ok
  pub turn_full : d + 1 ≡ n → length (take n (set s d v)) ≡ n
  turn_full e = length-take-le n (set s d v) (rw (length-set, t.state.size) t.state.room)

  pub turn_padded : d + 1 ≡ n → set s d v ≡ padded m (take n (set s d v))
  unfolding padded
  turn_padded e = sym (take-append-drop n (set s d v)) ∙ rw (kept, turn_full e)

  pub turn_good : v < k → d + 1 ≡ n → ok (take n (set s d v)) ≡ true
  turn_good h e = rw (← e) (stored h)

  -- it has Q
  pub turn_found : Q (take n (set s d v)) → d + 1 ≡ n → Meets Q (some (take n (set s d v)))
  turn_found q e = rw (← e) (reach_found Q n k ok t.space s d v inside passed (rw e q))

  -- it has not Q, and the search goes on in the same place
  pub turn_reject : v < k → (Q (take n (set s d v)) → ⊥) → d + 1 ≡ n → State Q n m k ok (set s d v) d (v + 1)
  turn_reject h no-q e = record {
    depth = t.state.depth;
    room = t.state.room;
    size = length-set s d v ∙ t.state.size;
    rest = kept;
    bound = omega arith;
    good = rw (take-set-le d s d v (le_refl d)) t.state.good;
    reached = rw (take-set-le d s d v (le_refl d)) (reach_reject Q n k ok t.space s d v inside e passed no-q);
  }

  pub turn_reject_less : v < k → left k n (set s d v) d (v + 1) < left k n s d from
  turn_reject_less h = rw (left_set k n s d v d (v + 1) (le_refl d)) (left_skip k n s d from v (picked.low h) h t.state.depth)

  one_less : 0 < d → d - 1 + 1 ≡ d
  one_less h = omega arith

  -- the number in the place before
  pub turn_last : 0 < d → get_or s (d - 1) 0 < k
  turn_last h = rw (get_or-take d s (d - 1) 0 (omega arith)) at (t.space.below (take d s) t.state.good (d - 1) (rw (length-take-le d s (omega (arith, inside))) (omega arith)))

  -- none was found, and the search goes back one place
  pub turn_back : k ≤ v → 0 < d → State Q n m k ok s (d - 1) (get_or s (d - 1) 0 + 1)
  turn_back h l = record {
    depth = omega (arith, t.state.depth);
    room = t.state.room;
    size = t.state.size;
    rest = t.state.rest;
    bound = let b = turn_last l in omega arith;
    good = t.space.closed (take (d - 1) s) (get_or s (d - 1) 0) (rw (← take-suc s (d - 1) 0 (omega (arith, inside)), ← add-one (d - 1), one_less l) t.state.good);
    reached = reach_back Q n k ok t.space s (d - 1) (omega (arith, inside)) (rw (one_less l, le_antisymm h picked.high) passed);
  }

  pub turn_back_less : 0 < d → left k n s (d - 1) (get_or s (d - 1) 0 + 1) < left k n s d from
  turn_back_less h = rw (one_less h) at (left_back k n s (d - 1) from)

  -- none was found for the first place
  pub turn_none : k ≤ v → d ≡ 0 → Meets Q none
  turn_none h e = reach_none Q n k ok t.space (rw (← le_antisymm h picked.high, e) at passed) (omega (arith, t.state.depth))
