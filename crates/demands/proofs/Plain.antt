-- Laws of plain readings: of the connectives, of numbers and of loops.
-- Assumes nothing.
use mathlib.Core.Path.{◌≡◌, refl}
use mathlib.Core.Bool.{Bool, true, false, ◌&&◌, ◌||◌, not, cond, beq}
use mathlib.Core.Logic.{◌≢◌, inl, inr, ⊎_elim}
use Prim.Native.Nat.{ℕ, zero, suc, ◌≤◌, ◌<◌}
use native.Mathlib.Omega.{arith}
use lib.Dec.{eqb, leb, ltb}
use borrow.Author.Tests.{leb-true, leb-false, ltb-true, ltb-false, eqb-true, eqb-false, not-true, not-false}
use Rattle.lex.specs.Every.{imp, every}
use Rattle.lex.proofs.Every.{both, and_left, and_right, not_both, same_truth, imp_out, every_at, every_true, every_miss}
use Rattle.week.proofs.Tables.{beq_same, same_beq}
use Rattle.demands.specs.Readings.{Reads, ◌or◌, ◌and◌, AllBelow, SomeBelow}

-- a test that passes gives P, and one that fails gives N; both cannot be
pub reading : {P N : Type 0} (t : Bool) → (t ≡ true → P) → (t ≡ false → N) → (P → N → ⊥) → Reads t P N
reading true f g h = record { passes = (f, λ p. refl); fails = (λ e. absurd (not_both refl e), λ n. absurd (h (f refl) n)) }
reading false f g h = record { passes = (λ e. absurd (not_both e refl), λ p. absurd (h p (g refl))); fails = (g, λ n. refl) }

pub clash : {t : Bool} {P N : Type 0} → Reads t P N → P → N → ⊥
clash r p n = not_both (r.passes.1 p) (r.fails.1 n)

-- a test as it stands
pub as_is : (t : Bool) → Reads t (t ≡ true) (t ≡ false)
as_is t = reading t (λ e. e) (λ e. e) not_both

-- Connectives

module _ {P N Q M : Type 0} where
  pub and_reads : {a b : Bool} → Reads a P N → Reads b Q M → Reads (a && b) (P and Q) (N or M)
  and_reads {a} {b} r s = reading (a && b) (λ e. (r.passes.0 (and_left a b e), s.passes.0 (and_right a b e))) (wrong a r) (λ p. ⊎_elim (clash r p.0) (clash s p.1))
    where
      wrong : (a : Bool) → Reads a P N → (a && b) ≡ false → N or M
      wrong true r e = inr (s.fails.0 e)
      wrong false r e = inl (r.fails.0 refl)

  pub or_reads : {a b : Bool} → Reads a P N → Reads b Q M → Reads (a || b) (P or Q) (N and M)
  or_reads {a} {b} r s = reading (a || b) (right a r) (wrong a r) (λ p n. ⊎_elim (λ x. clash r x n.0) (λ x. clash s x n.1) p)
    where
      right : (a : Bool) → Reads a P N → (a || b) ≡ true → P or Q
      right true r e = inl (r.passes.0 refl)
      right false r e = inr (s.passes.0 e)

      wrong : (a : Bool) → Reads a P N → (a || b) ≡ false → N and M
      wrong true r e = absurd (not_both refl e)
      wrong false r e = (r.fails.0 refl, s.fails.0 e)

  pub imp_reads : {a b : Bool} → Reads a P N → Reads b Q M → Reads (imp a b) (P → Q) (P and M)
  imp_reads {a} {b} r s = reading (imp a b) (λ e p. s.passes.0 (imp_out a b e (r.passes.1 p))) (wrong a r) (λ f n. clash s (f n.0) n.1)
    where
      wrong : (a : Bool) → Reads a P N → imp a b ≡ false → P and M
      wrong true r e = (r.passes.0 refl, s.fails.0 e)
      wrong false r e = absurd (not_both refl e)

module _ {P N : Type 0} where
  pub not_reads : {a : Bool} → Reads a P N → Reads (not a) N P
  not_reads {a} r = reading (not a) (λ e. r.fails.0 (not-true a e)) (λ e. r.passes.0 (not-false a e)) (λ n p. clash r p n)

  -- the last test of a list
  pub last_reads : {a : Bool} → Reads a P N → Reads (a && true) P N
  last_reads {a} r = reading (a && true) (λ e. r.passes.0 (and_left a true e)) (wrong a r) (clash r)
    where
      wrong : (a : Bool) → Reads a P N → (a && true) ≡ false → N
      wrong true r e = absurd (not_both refl e)
      wrong false r e = r.fails.0 refl

-- one test or another, as a third says
pub cond_reads : {P N Q M U X : Type 0} {a b c : Bool} → Reads a P N → Reads b Q M → Reads c U X → Reads (cond a b c) ((P → Q) and (N → U)) ((P and M) or (N and X))
cond_reads {P} {N} {Q} {M} {U} {X} {a} {b} {c} r s t = reading (cond a b c) (right a r) (wrong a r) (λ p. ⊎_elim (λ n. clash s (p.0 n.0) n.1) (λ n. clash t (p.1 n.0) n.1))
  where
    right : (a : Bool) → Reads a P N → cond a b c ≡ true → (P → Q) and (N → U)
    right true r e = (λ p. s.passes.0 e, λ n. absurd (clash r (r.passes.0 refl) n))
    right false r e = (λ p. absurd (clash r p (r.fails.0 refl)), λ n. t.passes.0 e)

    wrong : (a : Bool) → Reads a P N → cond a b c ≡ false → (P and M) or (N and X)
    wrong true r e = inl (r.passes.0 refl, s.fails.0 e)
    wrong false r e = inr (r.fails.0 refl, t.fails.0 e)

-- Numbers

module _ (a b : ℕ) where
  pub eq_reads : Reads (eqb a b) (a ≡ b) (a ≢ b)
  eq_reads = reading (eqb a b) (eqb-true a b) (eqb-false a b) (λ e h. h e)

  pub le_reads : Reads (leb a b) (a ≤ b) (b < a)
  le_reads = reading (leb a b) (leb-true a b) (leb-false a b) (λ l h. omega arith)

  pub lt_reads : Reads (ltb a b) (a < b) (b ≤ a)
  lt_reads = reading (ltb a b) (ltb-true a b) (ltb-false a b) (λ l h. omega arith)

pub same_reads : (a b : Bool) → Reads (beq a b) (a ≡ b) (a ≢ b)
same_reads a b = reading (beq a b) (beq_same a b) (λ e h. not_both (same_beq a b h) e) (λ e h. h e)

-- Loops

pub every_reads : {f : ℕ → Bool} {P N : ℕ → Type 0} (n : ℕ) → ((k : ℕ) → Reads (f k) (P k) (N k)) → Reads (every f n) (AllBelow n P) (SomeBelow n N)
every_reads {f} n r =
    reading (every f n)
    (λ e k l. (r k).passes.0 (every_at f n k e l))
    (λ e. let m = every_miss f n e in record { one = m.at; below = m.below; is = (r m.at).fails.0 m.fails })
    (λ p s. clash (r s.one) (p s.one s.below) s.is)

-- a test of every number, the first apart
pub every_front : (f : ℕ → Bool) (n : ℕ) → every f (suc n) ≡ (f 0 && every (λ i. f (suc i)) n)
every_front f n =
    same_truth (every f (suc n)) (f 0 && every (λ i. f (suc i)) n)
    (λ e. both (every_at f (suc n) 0 e (omega arith)) (every_true (λ i. f (suc i)) n (λ i l. every_at f (suc n) (suc i) e (omega arith))))
    (λ e. every_true f (suc n) (at e))
  where
    at : (f 0 && every (λ i. f (suc i)) n) ≡ true → (k : ℕ) → k < suc n → f k ≡ true
    at e zero l = and_left (f 0) (every (λ i. f (suc i)) n) e
    at e (suc k) l = every_at (λ i. f (suc i)) n k (and_right (f 0) (every (λ i. f (suc i)) n) e) (omega arith)

pub every_and : (f g : ℕ → Bool) (n : ℕ) → every (λ k. f k && g k) n ≡ (every f n && every g n)
every_and f g n =
    same_truth (every (λ k. f k && g k) n) (every f n && every g n)
    (λ e. both (every_true f n (λ k l. and_left (f k) (g k) (every_at (λ k. f k && g k) n k e l))) (every_true g n (λ k l. and_right (f k) (g k) (every_at (λ k. f k && g k) n k e l))))
    (λ e. every_true (λ k. f k && g k) n (λ k l. both (every_at f n k (and_left (every f n) (every g n) e) l) (every_at g n k (and_right (every f n) (every g n) e) l)))
