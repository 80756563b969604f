-- Laws of a list of checks: its verdict in plain words, and the verdict of two lists one behind the other.
-- Assumes nothing.
use mathlib.Core.Path.{◌≡◌, refl, sym, ◌∙◌, ap}
use mathlib.Core.Bool.{Bool, true, false, not, cond}
use mathlib.Core.Logic.{◌↔◌}
use mathlib.Core.List.{List, [], ◌∷◌, ◌++◌}
use Prim.Native.Nat.{ℕ, zero, suc, ◌<◌}
use native.Mathlib.Omega.{arith}
use lib.Dec.{eqb}
use lib.ListN.{length}
use borrow.Author.Tests.{eqb-true, eqb-false, eq-eqb, ne_eqb, not-true}
use Rattle.lex.specs.Every.{imp, every, every_of}
use Rattle.lex.proofs.Every.{and_left, and_right, imp_out, every_at}
use Rattle.week.specs.Refusal.{or_else}
use Rattle.demands.specs.Checks.{Check, verdict, check_at, AllPass, Refuses, Exactly}

-- the first check, passed or failed
passed : (x : Check) (l : List Check) → x.passes ≡ true → verdict (x ∷ l) ≡ verdict l
unfolding verdict
passed x l e = ap (λ (t : Bool). cond t (verdict l) x.number) e

failed : (x : Check) (l : List Check) → x.passes ≡ false → verdict (x ∷ l) ≡ x.number
unfolding verdict
failed x l e = ap (λ (t : Bool). cond t (verdict l) x.number) e

-- A refusal

later : (x : Check) (l : List Check) (k : ℕ) → x.passes ≡ true → Refuses l k → Refuses (x ∷ l) k
later x l k e r = record { place = suc r.place; inside = let h = r.inside in omega arith; earlier = before; fails = r.fails; number = r.number }
  where
    before : (i : ℕ) → i < suc r.place → (check_at (x ∷ l) i).passes ≡ true
    before zero h = e
    before (suc i) h = r.earlier i (omega arith)

pub verdict_refuses : (l : List Check) (k : ℕ) → (k ≡ 0 → ⊥) → verdict l ≡ k → Refuses l k
unfolding verdict
verdict_refuses [] k h e = absurd (h (sym e))
verdict_refuses (x ∷ l) k h e = go (verdict_refuses l k h) x.passes refl
  where
    go : (verdict l ≡ k → Refuses l k) → (t : Bool) → x.passes ≡ t → Refuses (x ∷ l) k
    go rest true f = later x l k f (rest (sym (passed x l f) ∙ e))
    go rest false f = record { place = 0; inside = omega arith; earlier = λ i m. absurd (omega arith); fails = f; number = sym (failed x l f) ∙ e }

pub refuses_verdict : (l : List Check) (k : ℕ) → Refuses l k → verdict l ≡ k
refuses_verdict l k r = go l r.place r.inside r.earlier r.fails r.number
  where
    go : (l : List Check) (i : ℕ) → i < length l → ((j : ℕ) → j < i → (check_at l j).passes ≡ true) → (check_at l i).passes ≡ false → (check_at l i).number ≡ k → verdict l ≡ k
    go [] i h e f n = absurd (omega arith)
    go (x ∷ l) zero h e f n = failed x l f ∙ n
    go (x ∷ l) (suc i) h e f n = passed x l (e 0 (omega arith)) ∙ go l i (omega arith) (λ j m. e (suc j) (omega arith)) f n

-- No refusal: this needs that no check has the number 0

abbrev pub is_numbered : Check → Bool
is_numbered x = not (eqb x.number 0)

number_some : (x : Check) → is_numbered x ≡ true → x.number ≡ 0 → ⊥
number_some x e = eqb-false x.number 0 (not-true (eqb x.number 0) e)

pub verdict_done : (l : List Check) → every_of is_numbered l ≡ true → verdict l ≡ 0 → AllPass l
unfolding every_of
verdict_done [] n e i h = absurd (omega arith)
verdict_done (x ∷ l) n e i h = go (verdict_done l (and_right (is_numbered x) (every_of is_numbered l) n)) x.passes refl i h
  where
    go : (verdict l ≡ 0 → AllPass l) → (t : Bool) → x.passes ≡ t → (i : ℕ) → i < suc (length l) → (check_at (x ∷ l) i).passes ≡ true
    go rest true f zero h = f
    go rest true f (suc i) h = rest (sym (passed x l f) ∙ e) i (omega arith)
    go rest false f i h = absurd (number_some x (and_left (is_numbered x) (every_of is_numbered l) n) (sym (failed x l f) ∙ e))

pub done_verdict : (l : List Check) → AllPass l → verdict l ≡ 0
unfolding verdict
done_verdict [] h = refl
done_verdict (x ∷ l) h = passed x l (h 0 (omega arith)) ∙ done_verdict l (λ i m. h (suc i) (omega arith))

-- an answer that is the verdict comes exactly when the checks say
pub verdict_exactly : (l : List Check) (k : ℕ) → every_of is_numbered l ≡ true → k ≡ verdict l → Exactly l k
verdict_exactly l k n e = record {
  refused = λ j h. (λ f. verdict_refuses l j h (sym e ∙ f), λ r. e ∙ refuses_verdict l j r);
  done = (λ f. verdict_done l n (sym e ∙ f), λ a. e ∙ done_verdict l a);
}

-- Two lists of checks

pub verdict_append : (l m : List Check) → every_of is_numbered l ≡ true → or_else (verdict l) (verdict m) ≡ verdict (l ++ m)
unfolding every_of verdict
verdict_append [] m n = refl
verdict_append (x ∷ l) m n = go (verdict_append l m (and_right (is_numbered x) (every_of is_numbered l) n)) x.passes
  where
    go : or_else (verdict l) (verdict m) ≡ verdict (l ++ m) → (t : Bool) → or_else (cond t (verdict l) x.number) (verdict m) ≡ cond t (verdict (l ++ m)) x.number
    go rest true = rest
    go rest false = ap (λ (t : Bool). cond t (verdict m) x.number) (ne_eqb x.number 0 (number_some x (and_left (is_numbered x) (every_of is_numbered l) n)))

-- A number that stands in the list once

abbrev pub stands_once : List Check → ℕ → Bool
stands_once l i = every (λ h. imp (eqb (check_at l h).number (check_at l i).number) (eqb h i)) (length l)

-- it comes exactly if the checks before its place pass and the check there fails
pub refused_at : {k : ℕ} (l : List Check) (i : ℕ) → i < length l → ((check_at l i).number ≡ 0 → ⊥) → stands_once l i ≡ true → Exactly l k → (k ≡ (check_at l i).number) ↔ (((h : ℕ) → h < i → (check_at l h).passes ≡ true) × ((check_at l i).passes ≡ false))
refused_at {k} l i inside some once x =
    (λ e. there ((x.refused (check_at l i).number some).0 e), λ p. (x.refused (check_at l i).number some).1 (record { place = i; inside = inside; earlier = p.0; fails = p.1; number = refl }))
  where
    there : Refuses l (check_at l i).number → ((h : ℕ) → h < i → (check_at l h).passes ≡ true) × ((check_at l i).passes ≡ false)
    there r =
        let same : r.place ≡ i = eqb-true r.place i (imp_out _ _ (every_at (λ h. imp (eqb (check_at l h).number (check_at l i).number) (eqb h i)) (length l) r.place once r.inside) (eq-eqb _ _ r.number)) in
        (λ h m. r.earlier h (omega arith), sym (ap (λ (j : ℕ). (check_at l j).passes) same) ∙ r.fails)
