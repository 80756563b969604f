-- Laws of ties, lot by lot: what lots that are not tied may do, and that "tied" goes both ways on a symmetric table.
-- Assumes nothing.
use mathlib.Core.Path.{◌≡◌, refl, sym, ◌∙◌}
use mathlib.Core.Bool.{Bool, true, false, ◌&&◌, ◌||◌, not, or-true}
use Prim.Native.Nat.{ℕ, ◌<◌}
use lib.Dec.{eqb}
use borrow.Author.Tests.{eqb-true, eqb-false, eq-eqb, ne_eqb, not-false}
use Rattle.lex.specs.Every.{imp, every}
use Rattle.lex.proofs.Every.{both, and_left, and_right, not_both, imp_in, imp_out, every_true, every_at}
use Rattle.week.specs.Rules.{Rules, in_domain, together, free, tied}
use Rattle.week.proofs.Standing.{Symmetric, domain_below, tied_none}
use Rattle.sheet.specs.Moves.{near}

module _ (R : Rules) where
  -- two lots that are not tied may stand together in all slots of their domains
  pub untied : (p q v w : ℕ) → (p ≡ q → ⊥) → tied R p q ≡ false → in_domain R p v ≡ true → in_domain R q w ≡ true → together R p v q w ≡ true
  unfolding free tied
  untied p q v w h e a b =
      imp_out (in_domain R p v && in_domain R q w) (together R p v q w)
      (every_at (λ w. imp (in_domain R p v && in_domain R q w) (together R p v q w)) 16 w (every_at (free R p q) 16 v (all (eqb p q) (every (free R p q) 16) (ne_eqb p q h) e) (domain_below R p v a)) (domain_below R q w b))
      (both a b)
    where
      all : (a b : Bool) → a ≡ false → (not a && not b) ≡ false → b ≡ true
      all true b f e = absurd (not_both refl f)
      all false b f e = not-false b e

  untie : (p q : ℕ) → ((v w : ℕ) → in_domain R p v ≡ true → in_domain R q w ≡ true → together R p v q w ≡ true) → tied R p q ≡ false
  unfolding free
  untie p q h = sym (tied_none R p q (every_true (free R p q) 16 (λ v l. every_true (λ w. imp (in_domain R p v && in_domain R q w) (together R p v q w)) 16 (λ w m.
      imp_in (in_domain R p v && in_domain R q w) (together R p v q w) (λ t. h v w (and_left (in_domain R p v) (in_domain R q w) t) (and_right (in_domain R p v) (in_domain R q w) t))))))

  -- a lot is p or tied to p, taken apart
  pub data Near (p q : ℕ) : Type 0 where
    same : p ≡ q → Near p q
    bound : (p ≡ q → ⊥) → tied R p q ≡ true → Near p q

  pub near_read : (p q : ℕ) → near R p q ≡ true → Near p q
  unfolding near
  near_read p q e = go (eqb p q) refl e
    where
      go : (b : Bool) → eqb p q ≡ b → (b || tied R p q) ≡ true → Near p q
      go true f t = same (eqb-true p q f)
      go false f t = bound (eqb-false p q f) t

  pub near_same : (p : ℕ) → near R p p ≡ true
  unfolding near
  near_same p = rw (eq-eqb p p refl)

  pub near_tied : (p q : ℕ) → tied R p q ≡ true → near R p q ≡ true
  unfolding near
  near_tied p q e = rw e (or-true (eqb p q))

  module _ (mirror : Symmetric R) (p q : ℕ) (l : p < R.lots) (m : q < R.lots) where
    tied_mirror : (p ≡ q → ⊥) → tied R p q ≡ true → tied R q p ≡ true
    tied_mirror h e = go (tied R q p) refl
      where
        back : tied R q p ≡ false → tied R p q ≡ false
        back f = untie p q (λ v w a b. mirror p v q w l (domain_below R p v a) m (domain_below R q w b) ∙ untied q p w v (λ z. h (sym z)) f b a)

        go : (b : Bool) → tied R q p ≡ b → tied R q p ≡ true
        go true f = f
        go false f = absurd (not_both e (back f))

    pub near_mirror : near R p q ≡ true → near R q p ≡ true
    near_mirror e = elim (near_read p q e) [
      | same z ↦ rw z (near_same q)
      | bound h t ↦ near_tied q p (tied_mirror h t)
    ]
