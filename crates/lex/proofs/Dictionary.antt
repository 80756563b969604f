-- Laws of dictionary order: at most one list is the first with a property, and how "not after" moves with the steps of a search.
-- Assumes nothing.
use mathlib.Core.Path.{◌≡◌, refl, sym, ◌∙◌, ap}
use mathlib.Core.Logic.{◌⊎◌, inl, inr, ⊎_elim}
use mathlib.Core.List.{List, [], ◌∷◌, ◌++◌}
use mathlib.Core.Option.{Option, none, some}
use Prim.Native.Nat.{ℕ, zero, suc, ◌≤◌, ◌<◌}
use native.Mathlib.Decide.{dec_lt}
use native.Mathlib.Omega.{arith}
use lib.ListN.{length, get_or}
use Rattle.lex.specs.Dictionary.{Before, Le, Under, Meets}

pub lt_or_le : (a b : ℕ) → (a < b) ⊎ (b ≤ a)
lt_or_le a b = elim (dec_lt a b) [ yes h ↦ inl h | no h ↦ inr (omega arith) ]

pub le_refl : (l : List ℕ) → Le l l
le_refl [] = tt
le_refl (x ∷ l) = inr (refl, le_refl l)

-- two lists of one length, neither after the other, are equal
pub le_antisym : (s l : List ℕ) → length s ≡ length l → Le s l → Le l s → s ≡ l
le_antisym [] [] e p q = refl
le_antisym [] (x ∷ l) e p q = absurd (omega arith)
le_antisym (a ∷ s) [] e p q = absurd p
le_antisym (a ∷ s) (x ∷ l) e (inl h) (inl k) = absurd (omega arith)
le_antisym (a ∷ s) (x ∷ l) e (inl h) (inr k) = absurd (omega arith)
le_antisym (a ∷ s) (x ∷ l) e (inr h) (inl k) = absurd (omega arith)
le_antisym (a ∷ s) (x ∷ l) e (inr h) (inr k) = cc (le_antisym s l (omega arith) h.1 k.1)

-- at most one answer is right
pub meets_unique : (Q : List ℕ → Type 0) (n : ℕ) → ((l : List ℕ) → Q l → length l ≡ n) → (o p : Option (List ℕ)) → Meets Q o → Meets Q p → o ≡ p
meets_unique Q n len none none a b = refl
meets_unique Q n len none (some s) a b = absurd (a s b.0)
meets_unique Q n len (some s) none a b = absurd (b s a.0)
meets_unique Q n len (some s) (some t) a b = ap some (le_antisym s t (len s a.0 ∙ sym (len t b.0)) (a.1 t b.0) (b.1 s a.0))

-- the same lists have P and Q
pub meets_same : (P Q : List ℕ → Type 0) → ((l : List ℕ) → P l → Q l) → ((l : List ℕ) → Q l → P l) → (o : Option (List ℕ)) → Meets P o → Meets Q o
meets_same P Q f g none m = λ l q. m l (g l q)
meets_same P Q f g (some s) m = (f s m.0, λ l q. m.1 l (g l q))

-- between lists of one length, not after is equal or before
pub le_before : (s l : List ℕ) → length s ≡ length l → Le s l → (s ≡ l) ⊎ Before s l
le_before [] [] e p = inl refl
le_before [] (x ∷ l) e p = absurd (omega arith)
le_before (a ∷ s) [] e p = absurd p
le_before (a ∷ s) (x ∷ l) e (inl h) = inr (record { place = 0; inside = omega arith; same = λ j m. absurd (omega arith); less = h })
le_before (a ∷ s) (x ∷ l) e (inr h) =
    ⊎_elim
    (λ q. inl (cc h.0))
    (λ b. inr (record { place = suc b.place; inside = omega (arith, b.inside); same = agree b; less = b.less }))
    (le_before s l (omega arith) h.1)
  where
    agree : (b : Before s l) → (j : ℕ) → j < suc b.place → get_or (a ∷ s) j 0 ≡ get_or (x ∷ l) j 0
    agree b zero m = h.0
    agree b (suc j) m = b.same j (omega arith)

pub before_le : (s l : List ℕ) → length s ≡ length l → Before s l → Le s l
before_le s l e b = go s l e b.place b.inside b.same b.less
  where
    go : (s l : List ℕ) → length s ≡ length l → (i : ℕ) → i < length s → ((j : ℕ) → j < i → get_or s j 0 ≡ get_or l j 0) → get_or s i 0 < get_or l i 0 → Le s l
    go [] l e i h f g = absurd (omega arith)
    go (a ∷ s) [] e i h f g = absurd (omega arith)
    go (a ∷ s) (x ∷ l) e zero h f g = inl g
    go (a ∷ s) (x ∷ l) e (suc i) h f g = inr (f 0 (omega arith), go s l (omega arith) i (omega arith) (λ j m. f (suc j) (omega arith)) g)

-- nothing is before itself or before what is not after it
pub before_not_le : (s l : List ℕ) → length s ≡ length l → Before s l → Le l s → ⊥
before_not_le s l e b q = go s l b.place b.same b.less (le_antisym s l e (before_le s l e b) q)
  where
    go : (s l : List ℕ) (i : ℕ) → ((j : ℕ) → j < i → get_or s j 0 ≡ get_or l j 0) → get_or s i 0 < get_or l i 0 → s ≡ l → ⊥
    go s l i f g e = let q : get_or s i 0 ≡ get_or l i 0 = ap (λ (r : List ℕ). get_or r i 0) e in omega arith

-- what holds at each place of a list holds of the list
pub under_all : {k : ℕ} (l : List ℕ) → ((i : ℕ) → i < length l → get_or l i 0 < k) → Under k l
under_all [] h = tt
under_all (x ∷ l) h = (h 0 (omega arith), under_all l (λ i m. h (suc i) (omega arith)))

-- The steps of a search, which stands at a beginning `pre` and the next number v to try behind it.

-- any list is at or behind the start
pub le_start : (l : List ℕ) → 0 < length l → Le (0 ∷ []) l
le_start [] h = absurd (omega arith)
le_start (x ∷ l) h = elim (lt_or_le 0 x) [ inl g ↦ inl g | inr g ↦ inr (omega arith, tt) ]

-- from v on to r, where no number from v below r continues `pre` to l
pub le_skip : (pre l : List ℕ) (v r : ℕ) → Le (pre ++ v ∷ []) l → ((k : ℕ) (suf : List ℕ) → v ≤ k → k < r → l ≡ pre ++ k ∷ suf → ⊥) → Le (pre ++ r ∷ []) l
le_skip [] [] v r p missed = absurd p
le_skip [] (x ∷ l) v r p missed = elim (lt_or_le x r) [
  | inl h ↦ absurd (missed x l (⊎_elim (λ w. omega arith) (λ w. omega arith) p) h refl)
  | inr h ↦ elim (lt_or_le r x) [ inl g ↦ inl g | inr g ↦ inr (omega arith, tt) ]
]
le_skip (a ∷ pre) [] v r p missed = absurd p
le_skip (a ∷ pre) (x ∷ l) v r (inl h) missed = inl h
le_skip (a ∷ pre) (x ∷ l) v r (inr h) missed = inr (h.0, le_skip pre l v r h.1 (λ k suf le lt e. missed k suf le lt (cc)))

-- one place deeper: any number there is at least 0
pub le_deeper : (pre l : List ℕ) (v : ℕ) → suc (length pre) < length l → Le (pre ++ v ∷ []) l → Le ((pre ++ v ∷ []) ++ 0 ∷ []) l
le_deeper [] [] v h p = absurd p
le_deeper [] (x ∷ []) v h p = absurd (omega arith)
le_deeper [] (x ∷ y ∷ l) v h (inl a) = inl a
le_deeper [] (x ∷ y ∷ l) v h (inr a) = inr (a.0, elim (lt_or_le 0 y) [ inl g ↦ inl g | inr g ↦ inr (omega arith, tt) ])
le_deeper (a ∷ pre) [] v h p = absurd p
le_deeper (a ∷ pre) (x ∷ l) v h (inl b) = inl b
le_deeper (a ∷ pre) (x ∷ l) v h (inr b) = inr (b.0, le_deeper pre l v (omega arith) b.1)

-- and back: no number is k or more
pub le_back : (k : ℕ) (pre l : List ℕ) (w : ℕ) → Under k l → Le ((pre ++ w ∷ []) ++ k ∷ []) l → Le (pre ++ suc w ∷ []) l
le_back k [] [] w u p = absurd p
le_back k [] (x ∷ l) w u (inl a) = elim (lt_or_le (suc w) x) [ inl g ↦ inl g | inr g ↦ inr (omega arith, tt) ]
le_back k [] (x ∷ []) w u (inr a) = absurd a.1
le_back k [] (x ∷ y ∷ l) w u (inr a) = absurd (⊎_elim (λ b. omega arith) (λ b. omega arith) a.1)
le_back k (a ∷ pre) [] w u p = absurd p
le_back k (a ∷ pre) (x ∷ l) w u (inl b) = inl b
le_back k (a ∷ pre) (x ∷ l) w u (inr b) = inr (b.0, le_back k pre l w u.1 b.1)

-- two lists that part behind `pre`
pub le_part : (pre a b : List ℕ) (v x : ℕ) → v < x → Le (pre ++ v ∷ a) (pre ++ x ∷ b)
le_part [] a b v x h = inl h
le_part (y ∷ pre) a b v x h = inr (refl, le_part pre a b v x h)
