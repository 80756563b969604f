-- Repairs, for a loss A, of the super solutions that extend s: each is a partial repair of the lots that s places; and where s is struck by A and there is none,
-- no super solution extends s. Assumes nothing.
use mathlib.Core.Path.{◌≡◌, refl, sym, ◌∙◌, ap}
use mathlib.Core.Bool.{Bool, true, false, ◌||◌}
use mathlib.Core.List.{List, [], ◌∷◌}
use Prim.Native.Nat.{ℕ, ◌<◌}
use native.Mathlib.Nat.{le_refl}
use native.Mathlib.Omega.{arith}
use lib.Dec.{eqb, ltb}
use lib.ListN.{length, get_or}
use borrow.Author.Tests.{ltb-true, lt-ltb, eqb-true}
use Rattle.lex.specs.Every.{every_of, some_of}
use Rattle.lex.specs.First.{is_found}
use Rattle.lex.proofs.Every.{both, and_left, and_right, not_both, imp_out, every_at}
use Rattle.week.specs.Rules.{bit_of}
use Rattle.week.specs.Tables.{Week, lots, pair_rules}
use Rattle.week.proofs.Words.{bit_below}
use Rattle.repair.specs.Break.{breaks, row_count}
use Rattle.repair.specs.Repair.{is_lost, repair_of}
use Rattle.repair.proofs.Mends.{repair_passes, found_repair}
use Rattle.robust.specs.Super.{row_sets, is_break, repair_for, safe, robust}
use Rattle.robust.proofs.Rows.{every_row}
use Rattle.parts.specs.Part.{placed, Extends, Needed}
use Rattle.cuts.specs.Cut.{whole, RepairsOn}
use Rattle.cuts.specs.Moves.{may}
use Rattle.cuts.specs.Reasons.{None, asked, Struck, Later}
use Rattle.cuts.proofs.Cut.{mends_whole, mends_shrink, below, sets_below}
use Rattle.cuts.proofs.Moves.{may_needed}

-- what holds of the lots of a set
of_lost : (f : ℕ → Bool) (A : List ℕ) (p : ℕ) → every_of f A ≡ true → is_lost A p ≡ true → f p ≡ true
unfolding every_of is_lost some_of
of_lost f [] p e h = absurd (not_both h refl)
of_lost f (q ∷ A) p e h = go (eqb p q) refl h (λ t. of_lost f A p (and_right (f q) (every_of f A) e) t)
  where
    go : (b : Bool) → eqb p q ≡ b → (b || some_of (eqb p) A) ≡ true → (some_of (eqb p) A ≡ true → f p ≡ true) → f p ≡ true
    go true t u r = ap f (eqb-true p q t) ∙ and_left (f q) (every_of f A) e
    go false t u r = r u

module _ (W : Week) (s A : List ℕ) where
  -- cut down to the placed lots, such a repair is a partial one
  later_repairs : (u : List ℕ) → Later W s A u → RepairsOn (pair_rules W) (asked W s A) (placed 16 s) u
  later_repairs u k = record {
    len = k.mended.len;
    under = k.mended.under;
    good =
        mends_shrink (pair_rules W) W.numbers W.give A (placed 16 s) whole (lots W) s k.order (λ p l o. (refl, k.extends p l (ltb-true (get_or s p 0) 16 o)))
        u u (le_refl (length u)) (omega (arith, k.mended.len)) (λ p l o. (refl, refl)) (mends_whole (pair_rules W) (asked W k.order A) u ∙ k.mended.good);
    final = refl;
  }

  -- so the test of what is decided is needed
  pub later_needed : Needed (Later W s A) (lots W) 16 (may (pair_rules W) (asked W s A) (placed 16 s))
  later_needed = record {
    under = λ u k. (may_needed (pair_rules W) (asked W s A) (placed 16 s)).under u (later_repairs u k);
    needed = λ m u k x. (may_needed (pair_rules W) (asked W s A) (placed 16 s)).needed m u (later_repairs u k) x;
  }

-- Where s is struck

-- a break of s is one of an order that extends s
breaks_later : (loss s u A : List ℕ) (n : ℕ) → Extends n 16 s u → below n A ≡ true → breaks loss s A ≡ true → breaks loss u A ≡ true
unfolding breaks every_of
breaks_later loss s u [] n x b e = refl
breaks_later loss s u (p ∷ A) n x b e =
    let here = and_left (bit_of (get_or loss p 0) (get_or s p 0)) (every_of (λ q. bit_of (get_or loss q 0) (get_or s q 0)) A) e in
    both (ap (bit_of (get_or loss p 0)) (x p (ltb-true p n (and_left (ltb p n) (below n A) b)) (bit_below (get_or loss p 0) (get_or s p 0) here)) ∙ here)
    (breaks_later loss s u A n x (and_right (ltb p n) (below n A) b) (and_right (bit_of (get_or loss p 0) (get_or s p 0)) (every_of (λ q. bit_of (get_or loss q 0) (get_or s q 0)) A) e))

module _ (W : Week) (s A : List ℕ) (c : Struck W s A) where
  -- what holds of every set of a row holds of A
  of_rows : (f : List ℕ → Bool) → every_of f (row_sets W) ≡ true → f A ≡ true
  unfolding row_count
  of_rows f e = ap f c.set ∙ every_at (λ i. f (get_or (row_sets W) i [])) (length (row_sets W)) c.row (sym (every_row f (row_sets W)) ∙ e) c.low

  struck_below : below (lots W) A ≡ true
  struck_below = of_rows (below (lots W)) (sets_below (lots W) W.numbers.a)

  -- a lost lot is a lot of the week, and placed
  pub lost_lot : (p : ℕ) → is_lost A p ≡ true → p < lots W
  lost_lot p h = ltb-true p (lots W) (of_lost (λ q. ltb q (lots W)) A p struck_below h)

  pub lost_placed : (p : ℕ) → is_lost A p ≡ true → placed 16 s p ≡ true
  unfolding breaks
  lost_placed p h = lt-ltb (get_or s p 0) 16 (bit_below (get_or W.loss p 0) (get_or s p 0) (of_lost (λ q. bit_of (get_or W.loss q 0) (get_or s q 0)) A p c.broken h))

  -- a super solution that extends s has a repair for A
  pub struck_none : ((u : List ℕ) → Later W s A u → ⊥) → None W s
  unfolding robust safe is_break repair_for
  struck_none h u q x =
      let r = found_repair (pair_rules W) (asked W u A) found in
      h r.0 (record { order = u; super = q; extends = x; mended = repair_passes (pair_rules W) (asked W u A) r.0 r.1 r.2 })
    where
      found : is_found (repair_of (pair_rules W) (asked W u A)) ≡ true
      found = imp_out (breaks W.loss u A) (is_found (repair_of (pair_rules W) (asked W u A))) (of_rows (safe W u) q.final) (breaks_later W.loss s u A (lots W) x struck_below c.broken)
