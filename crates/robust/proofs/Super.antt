-- Laws of super solutions: the tests of every set of lots, read and made; and fewer losses, and more lots that may move, keep a super solution one.
-- Assumes nothing.
use mathlib.Core.Path.{◌≡◌, refl, sym, ◌∙◌, ap}
use mathlib.Core.Bool.{Bool, true, ◌&&◌, cond}
use mathlib.Core.Logic.{⊎_elim}
use mathlib.Core.List.{List, [], ◌∷◌, map, flat_map}
use Prim.Native.Nat.{ℕ, zero, suc, ◌+◌, ◌-◌, ◌≤◌, ◌<◌}
use native.Mathlib.Omega.{arith}
use native.Mathlib.Decide.{dec_lt}
use native.Mathlib.Nat.{eq-or-lt_of_le}
use lib.Dec.{eqb, ltb}
use lib.ListN.{length}
use borrow.Author.Tests.{lt-ltb, le-ltb}
use Rattle.lex.specs.Every.{every_of}
use Rattle.lex.specs.First.{is_found}
use Rattle.lex.proofs.Every.{both, and_left, and_right, imp_in, imp_out, every_of_append, every_of_imp}
use Rattle.week.specs.Rules.{keeps}
use Rattle.week.specs.Tables.{Week, lots, pair_rules}
use Rattle.pairs.specs.Pairs.{lots_from, pair, pairs_of, pairs}
use Rattle.repair.specs.Break.{single, singles, lost_sets}
use Rattle.repair.specs.Repair.{case, replaces, yields, helps, may_go, moves, goes_at, moves_at}
use Rattle.repair.proofs.Mends.{mends_read, mends_make, repair_found, found_repair}
use Rattle.robust.specs.Super.{is_break, repair_for, safe, robust, is_super}

-- the week with other numbers a and b
abbrev pub allow : Week → ℕ → ℕ → Week
allow W a b = record {
  numbers = record { n = W.numbers.n; a = a; b = b; alternative = W.numbers.alternative; gap = W.numbers.gap; helper = W.numbers.helper };
  domain = W.domain;
  loss = W.loss;
  give = W.give;
  ties = W.ties;
}

-- The tests of every set

module _ (f : List ℕ → Bool) where
  pub every_map : (h : ℕ → List ℕ) (l : List ℕ) → every_of f (map h l) ≡ every_of (λ p. f (h p)) l
  unfolding every_of
  every_map h [] = refl
  every_map h (p ∷ l) = ap (λ (t : Bool). f (h p) && t) (every_map h l)

  pub every_flat : (h : ℕ → List (List ℕ)) (l : List ℕ) → every_of f (flat_map h l) ≡ every_of (λ p. every_of f (h p)) l
  unfolding every_of flat_map
  every_flat h [] = refl
  every_flat h (p ∷ l) = every_of_append f (h p) (flat_map h l) ∙ ap (λ (t : Bool). every_of f (h p) && t) (every_flat h l)

pub lots_read : (g : ℕ → Bool) (p k i : ℕ) → every_of g (lots_from p k) ≡ true → p ≤ i → i < p + k → g i ≡ true
unfolding every_of lots_from
lots_read g p zero i e l m = absurd (omega arith)
lots_read g p (suc k) i e l m =
    ⊎_elim
    (λ q. ap g (sym q) ∙ and_left (g p) (every_of g (lots_from (suc p) k)) e)
    (λ q. lots_read g (suc p) k i (and_right (g p) (every_of g (lots_from (suc p) k)) e) (omega arith) (omega arith))
    (eq-or-lt_of_le l)

pub lots_make : (g : ℕ → Bool) (p k : ℕ) → ((i : ℕ) → p ≤ i → i < p + k → g i ≡ true) → every_of g (lots_from p k) ≡ true
unfolding every_of lots_from
lots_make g p zero h = refl
lots_make g p (suc k) h = both (h p (omega arith) (omega arith)) (lots_make g (suc p) k (λ i l m. h i (omega arith) (omega arith)))

module _ (f : List ℕ → Bool) (n : ℕ) where
  pub single_read : every_of f (singles n) ≡ true → (p : ℕ) → p < n → f (single p) ≡ true
  unfolding singles
  single_read e p l = lots_read (λ q. f (single q)) 0 n p (sym (every_map f single (lots_from 0 n)) ∙ e) (omega arith) (omega arith)

  pub single_make : ((p : ℕ) → p < n → f (single p) ≡ true) → every_of f (singles n) ≡ true
  unfolding singles
  single_make h = every_map f single (lots_from 0 n) ∙ lots_make (λ q. f (single q)) 0 n (λ i l m. h i (omega arith))

  pub pair_read : every_of f (pairs n) ≡ true → (p q : ℕ) → p < q → q < n → f (pair p q) ≡ true
  unfolding pairs pairs_of
  pair_read e p q l m =
      let row = lots_read (λ i. every_of f (pairs_of n i)) 0 n p (sym (every_flat f (pairs_of n) (lots_from 0 n)) ∙ e) (omega arith) (omega arith) in
      lots_read (λ i. f (pair p i)) (suc p) (n - suc p) q (sym (every_map f (pair p) (lots_from (suc p) (n - suc p))) ∙ row) (omega arith) (omega arith)

  pub pair_make : ((p q : ℕ) → p < q → q < n → f (pair p q) ≡ true) → every_of f (pairs n) ≡ true
  unfolding pairs pairs_of
  pair_make h =
      every_flat f (pairs_of n) (lots_from 0 n)
      ∙ lots_make (λ i. every_of f (pairs_of n i)) 0 n
      (λ p l m. every_map f (pair p) (lots_from (suc p) (n - suc p)) ∙ lots_make (λ i. f (pair p i)) (suc p) (n - suc p) (λ q x y. h p q (omega arith) (omega arith)))

-- by kind of set
pub sets_read : (f : List ℕ → Bool) (n a : ℕ) → every_of f (lost_sets n a) ≡ true → (0 < a → every_of f (singles n) ≡ true) × (1 < a → every_of f (pairs n) ≡ true)
unfolding lost_sets
sets_read f n a e =
    let g = sym (every_of_append f (cond (ltb 0 a) (singles n) []) (cond (ltb 1 a) (pairs n) [])) ∙ e in (
      λ h. rw (lt-ltb 0 a h) at (and_left (every_of f (cond (ltb 0 a) (singles n) [])) (every_of f (cond (ltb 1 a) (pairs n) [])) g),
      λ h. rw (lt-ltb 1 a h) at (and_right (every_of f (cond (ltb 0 a) (singles n) [])) (every_of f (cond (ltb 1 a) (pairs n) [])) g),
    )

pub sets_make : (f : List ℕ → Bool) (n a : ℕ) → (0 < a → every_of f (singles n) ≡ true) → (1 < a → every_of f (pairs n) ≡ true) → every_of f (lost_sets n a) ≡ true
unfolding lost_sets every_of
sets_make f n a g h = every_of_append f (cond (ltb 0 a) (singles n) []) (cond (ltb 1 a) (pairs n) []) ∙ both (kind 0 (singles n) g) (kind 1 (pairs n) h)
  where
    kind : (i : ℕ) (l : List (List ℕ)) → (i < a → every_of f l ≡ true) → every_of f (cond (ltb i a) l []) ≡ true
    kind i l k = elim (dec_lt i a) [ yes m ↦ rw (lt-ltb i a m) (k m) | no m ↦ rw (le-ltb i a (omega arith)) refl ]

module _ (W : Week) (a b c d : ℕ) (fewer : a ≤ c) (more : d ≤ b) (s : List ℕ) where
  -- a repair that moves at most d others is one that moves at most b
  safe_more : (A : List ℕ) → safe (allow W c d) s A ≡ true → safe (allow W a b) s A ≡ true
  unfolding safe is_break repair_for goes_at moves_at may_go moves replaces yields helps
  safe_more A e = imp_in (is_break (allow W a b) s A) (is_found (repair_for (allow W a b) s A)) (λ t. found (imp_out (is_break (allow W c d) s A) (is_found (repair_for (allow W c d) s A)) e t))
    where
      found : is_found (repair_for (allow W c d) s A) ≡ true → is_found (repair_for (allow W a b) s A) ≡ true
      found t =
          let r = found_repair (pair_rules W) (case (allow W c d).numbers W.give s A) t in
          let m = mends_read (pair_rules W) (case (allow W c d).numbers W.give s A) r.0 r.2 in
          let l = m.few in
          repair_found (pair_rules W) (case (allow W a b).numbers W.give s A) r.0 r.1 (mends_make (pair_rules W) (case (allow W a b).numbers W.give s A) r.0 (record { keep = m.keep; go = m.go; few = omega arith }))

  -- a (c,d)-super solution is an (a,b)-super solution for a ≤ c and d ≤ b
  pub super_more : is_super (allow W c d) s ≡ true → is_super (allow W a b) s ≡ true
  unfolding is_super robust
  super_more e =
      let rest = and_right (eqb (length s) (lots W)) (keeps (pair_rules W) s && robust (allow W c d) s) e in
      let sets = sets_read (safe (allow W c d) s) (lots W) c (and_right (keeps (pair_rules W) s) (robust (allow W c d) s) rest) in
      both (and_left (eqb (length s) (lots W)) (keeps (pair_rules W) s && robust (allow W c d) s) e)
      (both (and_left (keeps (pair_rules W) s) (robust (allow W c d) s) rest)
      (sets_make (safe (allow W a b) s) (lots W) a
      (λ h. every_of_imp (safe (allow W c d) s) (safe (allow W a b) s) (singles (lots W)) safe_more (sets.0 (omega arith)))
      (λ h. every_of_imp (safe (allow W c d) s) (safe (allow W a b) s) (pairs (lots W)) safe_more (sets.1 (omega arith)))))
