-- The steps of a search with backtracking: what is known of every list that the search has not come to, and a number that falls.
-- Assumes nothing.
use mathlib.Core.Path.{◌≡◌, refl, ap}
use mathlib.Core.Bool.{Bool, true, false}
use mathlib.Core.Logic.{⊎_elim}
use mathlib.Core.List.{List, [], ◌∷◌, ◌++◌, append_assoc}
use mathlib.Core.Option.{none, some}
use Prim.Native.Nat.{ℕ, zero, suc, ◌+◌, ◌-◌, ◌*◌, ◌≤◌, ◌<◌}
use native.Mathlib.Numerals.{add-one}
use native.Mathlib.Omega.{arith}
use native.Mathlib.Nat.{suc-mul, mul-le-mul_right, sub-zero}
use lib.ListN.{length, get_or, take, set, length-append}
use lib.Seq.{take-suc, take-suc-set, length-take-le, get_or-set_same, get_or-set_other}
use Rattle.lex.specs.Dictionary.{Le, Under, Meets}
use Rattle.lex.specs.First.{Passes}
use Rattle.lex.proofs.Dictionary.{under_all, le_skip, le_deeper, le_back, le_start}
use Rattle.lex.proofs.Every.{not_both, Closed, prune}

-- each list with Q has n numbers and passes ok; what passes ok has numbers below k, and each beginning of it passes ok
pub record Space (Q : List ℕ → Type 0) (n k : ℕ) (ok : List ℕ → Bool) : Type 0 where
  pub len : (l : List ℕ) → Q l → length l ≡ n
  pub passes : (l : List ℕ) → Q l → ok l ≡ true
  pub closed : Closed ok
  pub below : (l : List ℕ) → ok l ≡ true → (i : ℕ) → i < length l → get_or l i 0 < k

-- the lists among which `first` finds the first
pub passes_space : (ok fin : List ℕ → Bool) (k n : ℕ) → Closed ok → ((l : List ℕ) → ok l ≡ true → (i : ℕ) → i < length l → get_or l i 0 < k) → Space (Passes ok fin k n) n k ok
passes_space ok fin k n c b = record { len = λ l q. q.len; passes = λ l q. q.good; closed = c; below = b }

-- the search has come to the beginning `pre` and the next number v: no list with Q is before that
abbrev pub Reached : (List ℕ → Type 0) → List ℕ → ℕ → Type 0
Reached Q pre v = (l : List ℕ) → Q l → Le (pre ++ v ∷ []) l

module _ (Q : List ℕ → Type 0) (n k : ℕ) (ok : List ℕ → Bool) (S : Space Q n k ok) where
  under : (l : List ℕ) → Q l → Under k l
  under l q = under_all l (S.below l (S.passes l q))

  pub reach_start : 0 < n → Reached Q [] 0
  reach_start h l q = le_start l (let e = S.len l q in omega arith)

  -- no number from v below r goes on behind `pre`
  pub reach_skip : (pre : List ℕ) (v r : ℕ) → Reached Q pre v → ((j : ℕ) → v ≤ j → j < r → ok (pre ++ j ∷ []) ≡ false) → Reached Q pre r
  reach_skip pre v r c h l q =
      le_skip pre l v r (c l q)
      (λ j suf le lt e. not_both (prune ok S.closed (pre ++ j ∷ []) suf (rw (append_assoc, ← e) (S.passes l q))) (h j le lt))

  -- the number v is stored in place d, and the search goes on in place d + 1
  pub reach_deeper : (s : List ℕ) (d v : ℕ) → d < length s → d + 1 < n → Reached Q (take d s) v → Reached Q (take (d + 1) (set s d v)) 0
  reach_deeper s d v h m c l q =
      rw (add-one, take-suc-set s d v h)
      (le_deeper (take d s) l v (let e = S.len l q in let f = length-take-le d s (omega arith) in omega arith) (c l q))

  -- no number is left in place d + 1, and the search goes back to place d
  pub reach_back : (s : List ℕ) (d : ℕ) → d < length s → Reached Q (take (d + 1) s) k → Reached Q (take d s) (get_or s d 0 + 1)
  reach_back s d h c l q = rw (add-one) (le_back k (take d s) l (get_or s d 0) (under l q) (rw (add-one, take-suc s d 0 h) at (c l q)))

  -- no number is left in the first place
  pub reach_none : Reached Q [] k → 0 < n → Meets Q none
  reach_none c h l q = go l (c l q) (under l q)
    where
      go : (l : List ℕ) → Le (k ∷ []) l → Under k l → ⊥
      go [] p u = p
      go (x ∷ l) p u = ⊎_elim (λ w. omega arith) (λ w. omega arith) p

  -- the list with v in the last place d has Q
  pub reach_found : (s : List ℕ) (d v : ℕ) → d < length s → Reached Q (take d s) v → Q (take (d + 1) (set s d v)) → Meets Q (some (take (d + 1) (set s d v)))
  reach_found s d v h c q = (q, λ l p. rw (add-one, take-suc-set s d v h) (c l p))

  -- the list with v in the last place d has not Q
  pub reach_reject : (s : List ℕ) (d v : ℕ) → d < length s → d + 1 ≡ n → Reached Q (take d s) v → (Q (take n (set s d v)) → ⊥) → Reached Q (take d s) (v + 1)
  reach_reject s d v h m c no-q l q = le_skip (take d s) l v (v + 1) (c l q) (λ j suf le lt e. go j suf (omega arith) e)
    where
      go : (j : ℕ) (suf : List ℕ) → j ≡ v → l ≡ take d s ++ j ∷ suf → ⊥
      go j [] i e = no-q (rw (← m, add-one, take-suc-set s d v h, ← i, ← e) q)
      go j (x ∷ suf) i e = let a = S.len l q in let b = ap length e in let f = length-append (take d s) (j ∷ x ∷ suf) in let g = length-take-le d s (omega arith) in omega arith

-- more turns than a search of r places takes
cost : ℕ → ℕ → ℕ
cost k zero = 1
cost k (suc r) = k * cost k r + 2

-- the turns that the search may take once it has gone back from place d of s
behind : ℕ → ℕ → List ℕ → ℕ → ℕ
behind k n s zero = 0
behind k n s (suc d) = (k - suc (get_or s d 0)) * cost k (n - suc d) + suc (behind k n s d)

-- the turns that it may take at place d, with v the next number there: the measure
pub left : ℕ → ℕ → List ℕ → ℕ → ℕ → ℕ
left k n s d v = (k - v) * cost k (n - suc d) + behind k n s d

behind_set : (k n : ℕ) (s : List ℕ) (i v d : ℕ) → d ≤ i → behind k n (set s i v) d ≡ behind k n s d
unfolding behind
behind_set k n s i v zero h = refl
behind_set k n s i v (suc d) h = rw (get_or-set_other s i d v 0 (omega arith), behind_set k n s i v d (omega arith))

cost_pos : (k r : ℕ) → 0 < cost k r
unfolding cost
cost_pos k zero = omega arith
cost_pos k (suc r) = omega arith

cost_step : (k n d : ℕ) → suc d < n → cost k (n - suc d) ≡ k * cost k (n - suc (suc d)) + 2
unfolding cost
cost_step k n d h = go (n - suc (suc d)) (n - suc d) (omega arith)
  where
    go : (r m : ℕ) → m ≡ suc r → cost k m ≡ k * cost k r + 2
    go r m e = rw e

pub left_deeper : (k n : ℕ) (s : List ℕ) (d u v : ℕ) → u ≤ v → v < k → d < length s → d + 1 < n → left k n (set s d v) (d + 1) 0 < left k n s d u
unfolding left behind
left_deeper k n s d u v h g l m =
    let a = cost_step k n d (omega arith) in
    let b = mul-le-mul_right (cost k (n - suc d)) less in
    let e = suc-mul (k - suc v) (cost k (n - suc d)) in
    rw (add-one, get_or-set_same s d v 0 l, behind_set k n s d v d (omega arith), sub-zero) (omega arith)
  where
    less : suc (k - suc v) ≤ k - u
    less = omega arith

pub left_back : (k n : ℕ) (s : List ℕ) (d v : ℕ) → left k n s d (get_or s d 0 + 1) < left k n s (d + 1) v
unfolding left behind
left_back k n s d v = rw (add-one (get_or s d 0), add-one d) (omega arith)

pub left_skip : (k n : ℕ) (s : List ℕ) (d u v : ℕ) → u ≤ v → v < k → d < n → left k n s d (v + 1) < left k n s d u
unfolding left
left_skip k n s d u v h g l =
    let b = mul-le-mul_right (cost k (n - suc d)) less in
    let e = suc-mul (k - (v + 1)) (cost k (n - suc d)) in
    let z = cost_pos k (n - suc d) in
    omega arith
  where
    less : suc (k - (v + 1)) ≤ k - u
    less = omega arith

pub left_set : (k n : ℕ) (s : List ℕ) (i v d u : ℕ) → d ≤ i → left k n (set s i v) d u ≡ left k n s d u
unfolding left
left_set k n s i v d u h = rw (behind_set k n s i v d h)
