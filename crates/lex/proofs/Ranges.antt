-- `all` over the numbers below n, where the closure asks a test of each: it answers `every`. And `any`, which answers whether some number passes.
-- Assumes nothing.
use mathlib.Core.Path.{◌≡◌, sym, subst}
use mathlib.Core.Bool.{Bool, true, false}
use Prim.Native.Nat.{ℕ, ◌<◌}
use native.Mathlib.Omega.{arith}
use lib.ListN.{length}
use denote.Param.Members.{Mut}
use Rattle.std.proofs.Common.{get_or}
use Rattle.std.specs.declared.ops.Range.{Range}
use Rattle.std.specs.Iterator.{ChecksAll}
use Rattle.std.specs.List.{range_with_len, AllWithin, HoldsAt}
use Rattle.std.specs.Fn.{Called}
use Rattle.std.specs.Bool.{MatchBool}
use Rattle.std.proofs.iter.Yields.{nat_range_steps}
use Rattle.std.proofs.lemmas.Iterator.{cases_from_all, YieldsList-from_range}
use Rattle.std.proofs.lemmas.List.FromFn.{length-range_with_len, get_or-range_with_len}
use Rattle.lex.specs.Every.{every}
use Rattle.lex.proofs.Every.{every_true, every_false}

-- number k of the range is k
place : (n k : ℕ) → k < n → get_or (range_with_len 0 n) k 0 ≡ k
place n k l = omega (arith, get_or-range_with_len 0 n k 0 l)

module _ {F : Type 0} {g : Mut F (ℕ × Unit {0}) Bool} (s u : Range ℕ) (f : F) (r : Bool) (P : ℕ → Bool) (n : ℕ)
    (range : s ≡ record { start = 0; end = n }) (asks : (x : ℕ) (b : Bool) (q : F) → Called g f (x, tt) b q → (q ≡ f) × (b ≡ P x)) where
  -- each number below n is one of the range, at its own place
  within : (T : ℕ → Type 0) → AllWithin T (range_with_len 0 n) 0 (length (range_with_len 0 n)) → (k : ℕ) → k < n → T k
  within T h k l = subst T (place n k l) (h k 0 (omega arith) (omega (arith, length-range_with_len 0 n)))

  pub all_range : ChecksAll nat_range_steps g s f r u → r ≡ every P n
  all_range d =
      told r
      (cases_from_all u f r (λ x. P x ≡ true) (λ x. P x ≡ false) d (YieldsList-from_range 0 n n range (omega arith))
      (λ x q c. let h = asks x true q c in (h.0, sym h.1)) (λ x q c. let h = asks x false q c in sym h.1))
    where
      told : (b : Bool) → MatchBool b (AllWithin (λ x. P x ≡ true) (range_with_len 0 n) 0 (length (range_with_len 0 n))) ((k : ℕ) × (k < length (range_with_len 0 n)) × HoldsAt (λ x. P x ≡ false) (range_with_len 0 n) k) → b ≡ every P n
      told true h = sym (every_true P n (within (λ x. P x ≡ true) h))
      told false h =
          let l : h.0 < n = omega (arith, h.1, length-range_with_len 0 n) in
          sym (every_false P n h.0 l (subst (λ x. P x ≡ false) (place n h.0 l) (h.2 0)))
