-- Laws of `every`, `count`, `every_of` and of Bools; and tests of a list that go place by place: what one more number adds.
-- Assumes nothing.
use mathlib.Core.Path.{◌≡◌, refl, sym, ◌∙◌, ap, ap₂}
use mathlib.Core.Bool.{Bool, true, false, ◌&&◌, ◌||◌, and-false, and_assoc, true≢false}
use mathlib.Core.Logic.{⊎_elim}
use mathlib.Core.List.{List, [], ◌∷◌, ◌++◌, append-nil, append_assoc}
use Prim.Native.Nat.{ℕ, zero, suc, ◌+◌, ◌≤◌, ◌<◌}
use native.Mathlib.Omega.{arith}
use native.Mathlib.Numerals.{add-one}
use native.Mathlib.Nat.{eq-or-lt_of_le, le_of_suc-le-suc}
use lib.ListN.{get_or, length, length-append, get_or-append}
use Rattle.lex.specs.Every.{imp, all, Each, every, one_if, count, every_of}

-- Bools

pub both : {a b : Bool} → a ≡ true → b ≡ true → (a && b) ≡ true
both e f = rw (e, f)

pub and_left : (a b : Bool) → (a && b) ≡ true → a ≡ true
and_left true b e = refl
and_left false b e = e

pub and_right : (a b : Bool) → (a && b) ≡ true → b ≡ true
and_right true b e = e
and_right false b e = absurd (true≢false (sym e))

pub false_of : (b : Bool) → (b ≡ true → ⊥) → b ≡ false
false_of true h = absurd (h refl)
false_of false h = refl

pub not_both : {b : Bool} → b ≡ true → b ≡ false → ⊥
not_both e f = true≢false (sym e ∙ f)

-- one of two holds, and it is not the first
pub or_other : {a b : Bool} → a ≡ false → (a || b) ≡ true → b ≡ true
or_other {a} {b} e f = rw e at f

pub or_neither : (a b : Bool) → (a || b) ≡ false → (a ≡ false) × (b ≡ false)
or_neither true b e = absurd (true≢false e)
or_neither false b e = (refl, e)

-- two tests that hold together are one
pub same_truth : (a b : Bool) → (a ≡ true → b ≡ true) → (b ≡ true → a ≡ true) → a ≡ b
same_truth true b f g = sym (f refl)
same_truth false true f g = g refl
same_truth false false f g = refl

pub imp_in : (a b : Bool) → (a ≡ true → b ≡ true) → imp a b ≡ true
imp_in true b h = h refl
imp_in false b h = refl

pub imp_out : (a b : Bool) → imp a b ≡ true → a ≡ true → b ≡ true
imp_out true b e h = e
imp_out false b e h = absurd (true≢false (sym h))

-- A list of tests

pub each : (l : List Bool) → all l ≡ true → Each l
each [] e = tt
each (t ∷ l) e = (and_left t (all l) e, each l (and_right t (all l) e))

pub each_all : (l : List Bool) → Each l → all l ≡ true
each_all [] e = refl
each_all (t ∷ l) e = both e.0 (each_all l e.1)

-- Every number below a bound

pub every_true : (f : ℕ → Bool) (n : ℕ) → ((k : ℕ) → k < n → f k ≡ true) → every f n ≡ true
unfolding every
every_true f zero h = refl
every_true f (suc n) h = both (every_true f n (λ k l. h k (omega arith))) (h n (omega arith))

pub every_at : (f : ℕ → Bool) (n k : ℕ) → every f n ≡ true → k < n → f k ≡ true
unfolding every
every_at f zero k e l = absurd (omega arith)
every_at f (suc n) k e l =
    ⊎_elim
    (λ h. rw h (and_right (every f n) (f n) e))
    (λ h. every_at f n k (and_left (every f n) (f n) e) h)
    (eq-or-lt_of_le (le_of_suc-le-suc l))

pub every_false : (f : ℕ → Bool) (n k : ℕ) → k < n → f k ≡ false → every f n ≡ false
every_false f n k l e = false_of (every f n) (λ t. not_both (every_at f n k t l) e)

pub every_cong : (f g : ℕ → Bool) (n : ℕ) → ((k : ℕ) → k < n → f k ≡ g k) → every f n ≡ every g n
unfolding every
every_cong f g zero h = refl
every_cong f g (suc n) h = rw (every_cong f g n (λ k l. h k (omega arith)), h n (omega arith))

-- a number that fails the test
pub record Miss (f : ℕ → Bool) (n : ℕ) : Type 0 where
  pub at : ℕ
  pub below : at < n
  pub fails : f at ≡ false

pub every_miss : (f : ℕ → Bool) (n : ℕ) → every f n ≡ false → Miss f n
unfolding every
every_miss f zero e = absurd (true≢false e)
every_miss f (suc n) e = go (every_miss f n) (every f n) refl e
  where
    go : (every f n ≡ false → Miss f n) → (t : Bool) → every f n ≡ t → (t && f n) ≡ false → Miss f (suc n)
    go lower true g h = record { at = n; below = omega arith; fails = h }
    go lower false g h = let m = lower g in record { at = m.at; below = let l = m.below in omega arith; fails = m.fails }

-- a loop that leaves at the first number that fails: what it knows after i numbers, and after one more
pub every_step : (f : ℕ → Bool) (i : ℕ) → every f i ≡ true → f i ≡ true → every f (i + 1) ≡ true
unfolding every
every_step f i e h = rw add-one (both e h)

-- and at its end
pub every_end : (f : ℕ → Bool) {i n : ℕ} → every f i ≡ true → i ≡ n → true ≡ every f n
every_end f e h = sym (rw h at e)

pub every_none : (f : ℕ → Bool) → every f 0 ≡ true
unfolding every
every_none f = refl

-- How many numbers below a bound

pub count_cong : (f g : ℕ → Bool) (n : ℕ) → ((k : ℕ) → k < n → f k ≡ g k) → count f n ≡ count g n
unfolding count
count_cong f g zero h = refl
count_cong f g (suc n) h = rw (count_cong f g n (λ k l. h k (omega arith)), h n (omega arith))

pub count_step : (f : ℕ → Bool) (n : ℕ) → count f (n + 1) ≡ count f n + one_if (f n)
unfolding count
count_step f n = rw add-one

-- a loop that counts: what it knows after one number more
pub count_yes : (f : ℕ → Bool) (i m n : ℕ) → m ≡ count f i → f i ≡ true → n ≡ m + 1 → n ≡ count f (i + 1)
count_yes f i m n h e g = rw (count_step f i, e) (omega arith)

pub count_no : (f : ℕ → Bool) (i m n : ℕ) → m ≡ count f i → f i ≡ false → n ≡ m → n ≡ count f (i + 1)
count_no f i m n h e g = rw (count_step f i, e) (omega arith)

pub one_if_le : (t : Bool) → one_if t ≤ 1
one_if_le true = omega arith
one_if_le false = omega arith

pub count_le : (f : ℕ → Bool) (n : ℕ) → count f n ≤ n
unfolding count
count_le f zero = omega arith
count_le f (suc n) = let a = count_le f n in let b = one_if_le (f n) in omega arith

-- Every member of a list

pub every_of_append {ℓ} : {A : Type ℓ} (f : A → Bool) (s t : List A) → every_of f (s ++ t) ≡ (every_of f s && every_of f t)
unfolding every_of
every_of_append f [] t = refl
every_of_append f (a ∷ s) t = rw (every_of_append f s t) (sym (and_assoc (f a) (every_of f s) (every_of f t)))

pub every_of_imp {ℓ} : {A : Type ℓ} (f g : A → Bool) (l : List A) → ((a : A) → f a ≡ true → g a ≡ true) → every_of f l ≡ true → every_of g l ≡ true
unfolding every_of
every_of_imp f g [] h e = refl
every_of_imp f g (a ∷ l) h e = both (h a (and_left (f a) (every_of f l) e)) (every_of_imp f g l h (and_right (f a) (every_of f l) e))

-- Tests of a list that go place by place

-- a test of place p of a list looks at the places up to p alone
abbrev pub Local {ℓ} : {A : Type ℓ} → (List ℕ → ℕ → A) → Type ℓ
Local g = (s t : List ℕ) (p : ℕ) → ((q : ℕ) → q ≤ p → get_or s q 0 ≡ get_or t q 0) → g s p ≡ g t p

-- the test of a list with one number more is the test of the list, and `step` of the list and the number
abbrev pub Snoc : (List ℕ → Bool) → (List ℕ → ℕ → Bool) → Type 0
Snoc ok step = (pre : List ℕ) (v : ℕ) → ok (pre ++ v ∷ []) ≡ (ok pre && step pre v)

-- the beginnings of a list that passes ok pass it: stated for one number less, and proved for any beginning
abbrev pub Closed : (List ℕ → Bool) → Type 0
Closed ok = (pre : List ℕ) (v : ℕ) → ok (pre ++ v ∷ []) ≡ true → ok pre ≡ true

pub prune : (ok : List ℕ → Bool) → Closed ok → (pre suf : List ℕ) → ok (pre ++ suf) ≡ true → ok pre ≡ true
prune ok c pre [] e = rw append-nil at e
prune ok c pre (x ∷ suf) e = c pre x (prune ok c (pre ++ x ∷ []) suf (rw append_assoc e))

pub snoc_closed : (ok : List ℕ → Bool) (step : List ℕ → ℕ → Bool) → Snoc ok step → Closed ok
snoc_closed ok step s pre v e = and_left (ok pre) (step pre v) (sym (s pre v) ∙ e)

pub snoc_link : (ok : List ℕ → Bool) (step : List ℕ → ℕ → Bool) → Snoc ok step → (pre : List ℕ) → ok pre ≡ true → (j : ℕ) → ok (pre ++ j ∷ []) ≡ step pre j
snoc_link ok step s pre e j = s pre j ∙ rw e

pub snoc_and : (a b : List ℕ → Bool) (f g : List ℕ → ℕ → Bool) → Snoc a f → Snoc b g → Snoc (λ l. a l && b l) (λ pre v. f pre v && g pre v)
snoc_and a b f g h k pre v = ap₂ ◌&&◌ (h pre v) (k pre v) ∙ swap (a pre) (f pre v) (b pre) (g pre v)
  where
    swap : (p q r s : Bool) → ((p && q) && (r && s)) ≡ ((p && r) && (q && s))
    swap true true r s = refl
    swap true false r s = sym (and-false r)
    swap false q r s = refl

-- a list with one number more
module _ (pre : List ℕ) (v : ℕ) where
  pub length_snoc : length (pre ++ v ∷ []) ≡ suc (length pre)
  length_snoc = length-append pre (v ∷ []) ∙ omega arith

  pub snoc_before : (q : ℕ) → q < length pre → get_or (pre ++ v ∷ []) q 0 ≡ get_or pre q 0
  snoc_before q l = get_or-append pre (v ∷ []) 0 q l

-- a local test at each place
pub every_snoc : (g : List ℕ → ℕ → Bool) → Local g → Snoc (λ l. every (g l) (length l)) (λ pre v. g (pre ++ v ∷ []) (length pre))
unfolding every
every_snoc g h pre v =
    ap (every (g (pre ++ v ∷ []))) (length_snoc pre v)
    ∙ rw (every_cong (g (pre ++ v ∷ [])) (g pre) (length pre) (λ p l. h (pre ++ v ∷ []) pre p (λ q m. snoc_before pre v q (omega arith))))

pub count_snoc : (g : List ℕ → ℕ → Bool) → Local g → (pre : List ℕ) (v : ℕ) → count (g (pre ++ v ∷ [])) (length (pre ++ v ∷ [])) ≡ count (g pre) (length pre) + one_if (g (pre ++ v ∷ []) (length pre))
unfolding count
count_snoc g h pre v =
    ap (count (g (pre ++ v ∷ []))) (length_snoc pre v)
    ∙ rw (count_cong (g (pre ++ v ∷ [])) (g pre) (length pre) (λ p l. h (pre ++ v ∷ []) pre p (λ q m. snoc_before pre v q (omega arith))))
