-- Laws of partial orders: what one more placed lot changes, how many lots are not placed, and what other tests do.
-- Assumes nothing.
use mathlib.Core.Path.{◌≡◌, sym, ◌∙◌, ap}
use mathlib.Core.Bool.{Bool, true, ◌&&◌}
use mathlib.Core.Logic.{◌≢◌}
use mathlib.Core.List.{List}
use Prim.Native.Nat.{ℕ, zero, suc, ◌+◌, ◌≤◌, ◌<◌}
use native.Mathlib.Decide.{dec_lt, ℕ_discrete}
use native.Mathlib.Omega.{arith}
use lib.ListN.{length, get_or, set}
use lib.Seq.{get_or-set_same, get_or-set_other}
use borrow.Author.Tests.{lt-ltb, le-ltb}
use Rattle.lex.specs.Every.{one_if, count}
use Rattle.lex.proofs.Every.{both, and_left, one_if_le, count_cong}
use Rattle.parts.specs.Part.{unplaced, Extends, Full, Needed, Tested}

-- One more lot

module _ (n k : ℕ) (s : List ℕ) (p v : ℕ) where
  -- an order that extends s and has lot p in slot v extends s with p there
  pub extends_set : p < length s → (t : List ℕ) → Extends n k s t → get_or t p 0 ≡ v → Extends n k (set s p v) t
  extends_set h t e f q l m = elim (ℕ_discrete q p) [
    | yes g ↦ rw (g, get_or-set_same s p v 0 h) f
    | no g ↦ let o = get_or-set_other s p q v 0 g in e q l (rw o at m) ∙ sym o
  ]

  -- and back, where s does not place p
  pub extends_unset : k ≤ get_or s p 0 → (t : List ℕ) → Extends n k (set s p v) t → Extends n k s t
  extends_unset h t e q l m = elim (ℕ_discrete q p) [
    | yes g ↦ absurd (let a = ap (λ (x : ℕ). get_or s x 0) g in omega arith)
    | no g ↦ let o = get_or-set_other s p q v 0 g in e q l (rw o m) ∙ o
  ]

-- How many lots are not placed

-- two tests that differ at most at x
pub count_one : (f g : ℕ → Bool) (x n : ℕ) → x < n → ((q : ℕ) → q ≢ x → f q ≡ g q) → count f n + one_if (g x) ≡ count g n + one_if (f x)
unfolding count
count_one f g x zero h e = absurd (omega arith)
count_one f g x (suc n) h e = elim (dec_lt x n) [
  | yes l ↦ let a = count_one f g x n l e in rw (e n (λ z. omega arith)) (omega arith)
  | no l ↦ let p : x ≡ n = omega arith in let a = count_cong f g n (λ q m. e q (λ z. omega arith)) in rw (p, a) (omega arith)
]

module _ (n k : ℕ) (s : List ℕ) (p v : ℕ) (h : p < length s) (l : p < n) where
  others : (q : ℕ) → q ≢ p → unplaced k (set s p v) q ≡ unplaced k s q
  others q g = rw (get_or-set_other s p q v 0 g)

  -- one less, where p was not placed and is
  pub count_place : k ≤ get_or s p 0 → v < k → count (unplaced k (set s p v)) n + 1 ≡ count (unplaced k s) n
  count_place m g =
      let a = count_one (unplaced k (set s p v)) (unplaced k s) p n l others in
      rw (get_or-set_same s p v 0 h, lt-ltb v k g, le-ltb (get_or s p 0) k m) at a ∙ omega arith

  -- at most one more, whatever is stored
  pub count_store : count (unplaced k (set s p v)) n ≤ count (unplaced k s) n + 1
  count_store =
      let a = count_one (unplaced k (set s p v)) (unplaced k s) p n l others in
      let b = one_if_le (unplaced k (set s p v) p) in
      omega arith

-- a lot that is not placed is counted
pub count_some : (n k : ℕ) (s : List ℕ) (p : ℕ) → p < n → k ≤ get_or s p 0 → 0 < count (unplaced k s) n
unfolding count
count_some zero k s p h g = absurd (omega arith)
count_some (suc n) k s p h g = elim (dec_lt p n) [
  | yes l ↦ let a = count_some n k s p l g in omega arith
  | no l ↦ let e : n ≡ p = omega arith in rw (e, le-ltb (get_or s p 0) k g) (omega arith)
]

-- Other tests

module _ {Q : List ℕ → Type 0} {n k : ℕ} {ok : List ℕ → Bool} (t : Tested Q n k ok) where
  -- a further test that is needed may prune too
  pub tested_and : (more : List ℕ → Bool) → Needed Q n k more → Tested Q n k (λ s. ok s && more s)
  tested_and more m = record {
    must = record { under = m.under; needed = λ s u q x. both (t.must.needed s u q x) (m.needed s u q x) };
    exact = λ s h f e. t.exact s h f (and_left (ok s) (more s) e);
  }

  -- a looser test does, if it is as strict where every lot is placed
  pub tested_loose : (loose : List ℕ → Bool) → ((s : List ℕ) → ok s ≡ true → loose s ≡ true) → ((s : List ℕ) → Full n k s → loose s ≡ true → ok s ≡ true) → Tested Q n k loose
  tested_loose loose g h = record {
    must = record { under = t.must.under; needed = λ s u q x. g s (t.must.needed s u q x) };
    exact = λ s l f e. t.exact s l f (h s f e);
  }
