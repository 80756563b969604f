-- `first` gives the first list, for every pair of tests of which the pruning one is closed under taking a beginning.
-- Assumes nothing.
use mathlib.Core.Path.{◌≡◌, refl, sym, ◌∙◌, ap, subst}
use mathlib.Core.Bool.{Bool, true, false}
use mathlib.Core.Logic.{◌⊎◌, inl, inr, ⊎_elim}
use mathlib.Core.List.{List, [], ◌∷◌, ◌++◌, append_assoc, append-nil}
use mathlib.Core.Option.{Option, none, some}
use Prim.Native.Nat.{ℕ, zero, suc, ◌+◌, ◌≤◌, ◌<◌}
use native.Mathlib.Decide.{dec_lt}
use native.Mathlib.Omega.{arith}
use lib.ListN.{length}
use Rattle.lex.specs.Dictionary.{Le, Under, Meets}
use Rattle.lex.specs.First.{pick, gate, try_from, within, first, Passes}
use Rattle.lex.proofs.Dictionary.{le_part, le_refl, meets_same, meets_unique}
use Rattle.lex.proofs.Every.{not_both, Closed, prune}

-- l goes on behind `pre` with r numbers below k, and has G
record Ends (G : List ℕ → Type 0) (k r : ℕ) (pre l : List ℕ) : Type 0 where
  suf : List ℕ
  is : l ≡ pre ++ suf
  len : length suf ≡ r
  under : Under k suf
  good : G l

-- l goes on behind `pre` with a number from v on and r more, and has G
record From (G : List ℕ → Type 0) (k r : ℕ) (pre : List ℕ) (v : ℕ) (l : List ℕ) : Type 0 where
  x : ℕ
  suf : List ℕ
  is : l ≡ pre ++ x ∷ suf
  least : v ≤ x
  below : x < k
  len : length suf ≡ r
  under : Under k suf
  good : G l

module _ (G : List ℕ → Type 0) (k r : ℕ) (pre : List ℕ) (v : ℕ) where
  -- the next number is v, or above it
  split : (l : List ℕ) → From G k r pre v l → From G k r pre (suc v) l ⊎ Ends G k r (pre ++ v ∷ []) l
  split l q = elim (dec_lt v q.x) [
    | yes h ↦ inl (record { x = q.x; suf = q.suf; is = q.is; least = h; below = q.below; len = q.len; under = q.under; good = q.good })
    | no h ↦ inr (record { suf = q.suf; is = here (omega arith); len = q.len; under = q.under; good = q.good })
  ]
    where
      here : v ≡ q.x → l ≡ (pre ++ v ∷ []) ++ q.suf
      here e = rw (append_assoc, e) q.is

  later : (l : List ℕ) → From G k r pre (suc v) l → From G k r pre v l
  later l q = record { x = q.x; suf = q.suf; is = q.is; least = omega arith; below = q.below; len = q.len; under = q.under; good = q.good }

  here : (l : List ℕ) → v < k → Ends G k r (pre ++ v ∷ []) l → From G k r pre v l
  here l h q = record { x = v; suf = q.suf; is = q.is ∙ append_assoc pre (v ∷ []) q.suf; least = omega arith; below = h; len = q.len; under = q.under; good = q.good }

  before : (s l : List ℕ) → Ends G k r (pre ++ v ∷ []) s → From G k r pre (suc v) l → Le s l
  before s l p q = rw (q.is, p.is, append_assoc) (le_part pre p.suf q.suf v q.x q.least)

  next : (o rest : Option (List ℕ)) → v < k → Meets (Ends G k r (pre ++ v ∷ [])) o → Meets (From G k r pre (suc v)) rest → Meets (From G k r pre v) (pick o rest)
  next none none h a b = λ l q. ⊎_elim (b l) (a l) (split l q)
  next none (some t) h a b = (later t b.0, λ l q. ⊎_elim (b.1 l) (λ e. absurd (a l e)) (split l q))
  next (some s) rest h a b = (here s h a.0, λ l q. ⊎_elim (before s l a.0) (a.1 l) (split l q))

module _ (ok fin : List ℕ → Bool) (k : ℕ) (closed : Closed ok) where
  abbrev G : List ℕ → Type 0
  G l = (ok l ≡ true) × (fin l ≡ true)

  try_from_meets : (r : ℕ) (f : List ℕ → Option (List ℕ)) → ((pre : List ℕ) → Meets (Ends G k r pre) (f pre)) → (c v : ℕ) (pre : List ℕ) → c + v ≡ k → Meets (From G k r pre v) (try_from f c v pre)
  unfolding try_from
  try_from_meets r f all zero v pre e = λ l q. let a = q.least in let b = q.below in omega arith
  try_from_meets r f all (suc c) v pre e =
      next G k r pre v (f (pre ++ v ∷ [])) (try_from f c (suc v) pre) (omega arith) (all (pre ++ v ∷ [])) (try_from_meets r f all c (suc v) pre (omega arith))

  gated : (r : ℕ) (pre : List ℕ) (o : Option (List ℕ)) (t : Bool) → ok pre ≡ t → (ok pre ≡ true → Meets (Ends G k r pre) o) → Meets (Ends G k r pre) (gate t o)
  gated r pre o true e m = m e
  gated r pre o false e m = λ l q. not_both (prune ok closed pre q.suf (rw q.is at q.good.0)) e

  ends : (r : ℕ) (pre l : List ℕ) → Ends G k (suc r) pre l → From G k r pre 0 l
  ends r pre l q = go q.suf q.is q.len q.under
    where
      go : (suf : List ℕ) → l ≡ pre ++ suf → length suf ≡ suc r → Under k suf → From G k r pre 0 l
      go [] e n u = absurd (omega arith)
      go (x ∷ suf) e n u = record { x = x; suf = suf; is = e; least = omega arith; below = u.0; len = omega arith; under = u.1; good = q.good }

  froms : (r : ℕ) (pre l : List ℕ) → From G k r pre 0 l → Ends G k (suc r) pre l
  froms r pre l q = record { suf = q.x ∷ q.suf; is = q.is; len = ap suc q.len; under = (q.below, q.under); good = q.good }

  end_nil : (pre l : List ℕ) → Ends G k 0 pre l → l ≡ pre
  end_nil pre l q = go q.suf q.is q.len
    where
      go : (suf : List ℕ) → l ≡ pre ++ suf → length suf ≡ 0 → l ≡ pre
      go [] e n = e ∙ append-nil pre
      go (x ∷ suf) e n = absurd (omega arith)

  last : (pre : List ℕ) (t : Bool) → ok pre ≡ true → fin pre ≡ t → Meets (Ends G k 0 pre) (gate t (some pre))
  last pre true e f = (record { suf = []; is = sym (append-nil pre); len = refl; under = tt; good = (e, f) }, λ l q. rw (end_nil pre l q) (le_refl pre))
  last pre false e f = λ l q. not_both (rw (end_nil pre l q) at q.good.1) f

  within_meets : (r : ℕ) (pre : List ℕ) → Meets (Ends G k r pre) (within ok fin k r pre)
  unfolding within
  within_meets zero pre = gated zero pre (gate (fin pre) (some pre)) (ok pre) refl (λ e. last pre (fin pre) e refl)
  within_meets (suc r) pre =
      gated (suc r) pre (try_from (within ok fin k r) k 0 pre) (ok pre) refl
      (λ e. meets_same (From G k r pre 0) (Ends G k (suc r) pre) (froms r pre) (ends r pre) (try_from (within ok fin k r) k 0 pre) (try_from_meets r (within ok fin k r) (within_meets r) k 0 pre (omega arith)))

  -- `first` is the first list that passes
  pub first_meets : (n : ℕ) → Meets (Passes ok fin k n) (first ok fin k n)
  unfolding first
  first_meets n =
      meets_same (Ends G k n []) (Passes ok fin k n)
      (λ l q. record { len = ap length q.is ∙ q.len; under = rw q.is q.under; good = q.good.0; final = q.good.1 })
      (λ l q. record { suf = l; is = refl; len = q.len; under = q.under; good = (q.good, q.final) })
      (within ok fin k n []) (within_meets n [])

  -- whatever is right is it
  pub first_is : (n : ℕ) (o : Option (List ℕ)) → Meets (Passes ok fin k n) o → o ≡ first ok fin k n
  first_is n o m = meets_unique (Passes ok fin k n) n (λ l q. q.len) o (first ok fin k n) m (first_meets n)

  -- what is found passes
  pub first_some : (n : ℕ) (s : List ℕ) → first ok fin k n ≡ some s → Passes ok fin k n s
  first_some n s e = (subst (Meets (Passes ok fin k n)) e (first_meets n)).0

  -- where none is found, none passes
  pub first_none : (n : ℕ) → first ok fin k n ≡ none → (l : List ℕ) → Passes ok fin k n l → ⊥
  first_none n e = subst (Meets (Passes ok fin k n)) e (first_meets n)

-- two pruning tests that agree on whole lists find the same
pub first_same : (ok other fin : List ℕ → Bool) (k n : ℕ) → Closed ok → Closed other → ((l : List ℕ) → length l ≡ n → ok l ≡ other l) → first ok fin k n ≡ first other fin k n
first_same ok other fin k n c d e =
    first_is other fin k d n (first ok fin k n)
    (meets_same (Passes ok fin k n) (Passes other fin k n)
    (λ l q. record { len = q.len; under = q.under; good = sym (e l q.len) ∙ q.good; final = q.final })
    (λ l q. record { len = q.len; under = q.under; good = e l q.len ∙ q.good; final = q.final })
    (first ok fin k n) (first_meets ok fin k c n))
