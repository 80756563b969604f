-- `any` over the numbers below n: where it answers yes, some number passes.
-- Assumes nothing.
use mathlib.Core.Path.{◌≡◌, subst}
use mathlib.Core.Bool.{Bool, true, false}
use Prim.Native.Nat.{ℕ, ◌<◌}
use native.Mathlib.Omega.{arith}
use denote.Param.Members.{Mut}
use Rattle.std.specs.declared.ops.Range.{Range}
use Rattle.std.specs.Iterator.{ChecksAny}
use Rattle.std.specs.Fn.{Called}
use Rattle.std.proofs.iter.Yields.{nat_range_steps}
use Rattle.std.proofs.lemmas.Iterator.{cases_from_any, YieldsList-from_range}
use Rattle.std.proofs.lemmas.List.FromFn.{length-range_with_len, get_or-range_with_len}

module _ {F : Type 0} {g : Mut F (ℕ × Unit {0}) Bool} (s u : Range ℕ) (f : F) (r : Bool) (P : ℕ → Type 0) (n : ℕ)
    (range : s ≡ record { start = 0; end = n }) (yes : (x : ℕ) (q : F) → Called g f (x, tt) true q → P x) (no : (x : ℕ) (q : F) → Called g f (x, tt) false q → q ≡ f) where
  pub some_range : ChecksAny nat_range_steps g s f r u → r ≡ true → (k : ℕ) × (k < n) × P k
  some_range d e =
      let h = rw e at (cases_from_any u f r P (λ x. Unit {0}) d (YieldsList-from_range 0 n n range (omega arith)) yes (λ x q c. (no x q c, tt))) in
      let l : h.0 < n = omega (arith, h.1, length-range_with_len 0 n) in
      (h.0, l, subst P (omega (arith, get_or-range_with_len 0 n h.0 0 l)) (h.2 0))
