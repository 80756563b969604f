-- `all` over the numbers from a on, below b, where the closure asks a test of each: it answers `every`.
-- Assumes nothing.
use mathlib.Core.Path.{◌≡◌, sym, subst}
use mathlib.Core.Bool.{Bool, true, false}
use Prim.Native.Nat.{ℕ, ◌+◌, ◌-◌, ◌<◌}
use native.Mathlib.Omega.{arith}
use lib.ListN.{length}
use denote.Param.Members.{Mut}
use Rattle.std.proofs.Common.{get_or, refl}
use Rattle.std.specs.declared.ops.Range.{Range}
use Rattle.std.specs.Iterator.{ChecksAll}
use Rattle.std.specs.List.{range_with_len, AllWithin, HoldsAt}
use Rattle.std.specs.Fn.{Called}
use Rattle.std.specs.Bool.{MatchBool}
use Rattle.std.proofs.iter.Yields.{nat_range_steps}
use Rattle.std.proofs.lemmas.Iterator.{cases_from_all, YieldsList-from_range}
use Rattle.std.proofs.lemmas.List.FromFn.{length-range_with_len, get_or-range_with_len}
use Rattle.lex.specs.Every.{every}
use Rattle.lex.proofs.Every.{every_true, every_false}

module _ {F : Type 0} {g : Mut F (ℕ × Unit {0}) Bool} (s u : Range ℕ) (f : F) (r : Bool) (P : ℕ → Bool) (a b : ℕ)
    (range : s ≡ record { start = a; end = b }) (asks : (x : ℕ) (t : Bool) (q : F) → Called g f (x, tt) t q → (q ≡ f) × (t ≡ P x)) where
  -- number k of the range is a + k
  place : (k : ℕ) → k < b - a → get_or (range_with_len a (b - a)) k 0 ≡ a + k
  place k l = omega (arith, get_or-range_with_len a (b - a) k 0 l)

  within : (T : ℕ → Type 0) → AllWithin T (range_with_len a (b - a)) 0 (length (range_with_len a (b - a))) → (k : ℕ) → k < b - a → T (a + k)
  within T h k l = subst T (place k l) (h k 0 (omega arith) (omega (arith, length-range_with_len a (b - a))))

  pub all_between : ChecksAll nat_range_steps g s f r u → r ≡ every (λ k. P (a + k)) (b - a)
  all_between d =
      told r
      (cases_from_all u f r (λ x. P x ≡ true) (λ x. P x ≡ false) d (YieldsList-from_range a b (b - a) range refl)
      (λ x q c. let h = asks x true q c in (h.0, sym h.1)) (λ x q c. let h = asks x false q c in sym h.1))
    where
      told : (t : Bool) → MatchBool t (AllWithin (λ x. P x ≡ true) (range_with_len a (b - a)) 0 (length (range_with_len a (b - a)))) ((k : ℕ) × (k < length (range_with_len a (b - a))) × HoldsAt (λ x. P x ≡ false) (range_with_len a (b - a)) k)
          → t ≡ every (λ k. P (a + k)) (b - a)
      told true h = sym (every_true (λ k. P (a + k)) (b - a) (within (λ x. P x ≡ true) h))
      told false h =
          let l : h.0 < b - a = omega (arith, h.1, length-range_with_len a (b - a)) in
          sym (every_false (λ k. P (a + k)) (b - a) h.0 l (subst (λ x. P x ≡ false) (place h.0 l) (h.2 0)))
