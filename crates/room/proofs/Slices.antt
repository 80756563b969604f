-- `all` over a slice, where the closure asks a test of each element: it answers `every` over the places. Assumes nothing.
use mathlib.Core.Path.{◌≡◌, sym, ◌∙◌}
use mathlib.Core.Bool.{Bool, true, false}
use mathlib.Core.List.{List}
use Prim.Native.Nat.{ℕ, ◌<◌}
use native.Mathlib.Omega.{arith}
use denote.Param.Members.{Mut}
use denote.Ref.{Bor}
use lib.ListN.{length, get_or}
use Rattle.std.proofs.Common.{Iter}
use Rattle.std.specs.Bool.{MatchBool}
use Rattle.std.specs.Iterator.{ChecksAll}
use Rattle.std.specs.List.{AllWithin, HoldsAt}
use Rattle.std.specs.Fn.{Called}
use Rattle.std.specs.Slice.Iter.{iter_rest}
use Rattle.std.proofs.iter.Yields.{fronts}
use Rattle.std.proofs.lemmas.Iterator.{cases_from_all, YieldsList-from_slice}
use Rattle.lex.specs.Every.{every}
use Rattle.lex.proofs.Every.{every_true, every_false}

module _ {A F : Type 0} {g : Mut F (Bor A × Unit {0}) Bool} (s u : Iter A) (f : F) (r : Bool) (T : A → Bool) (xs : List A) (d : A) (P : ℕ → Bool) (n : ℕ)
    (rest : iter_rest s ≡ xs) (long : length xs ≡ n) (each : (k : ℕ) → k < n → T (get_or xs k d) ≡ P k)
    (asks : (x : Bor A) (b : Bool) (q : F) → Called g f (x, tt) b q → (q ≡ f) × (b ≡ T x.now)) where
  pub all_slice : ChecksAll fronts g s f r u → r ≡ every P n
  all_slice ran =
      told r
      (cases_from_all u f r (λ x. T x ≡ true) (λ x. T x ≡ false) ran (YieldsList-from_slice xs rest)
      (λ x q c. let h = asks x true q c in (h.0, sym h.1)) (λ x q c. let h = asks x false q c in sym h.1))
    where
      told : (b : Bool) → MatchBool b (AllWithin (λ x. T x ≡ true) xs 0 (length xs)) ((k : ℕ) × (k < length xs) × HoldsAt (λ x. T x ≡ false) xs k) → b ≡ every P n
      told true h = sym (every_true P n (λ k l. sym (each k l) ∙ h k d (omega arith) (omega arith)))
      told false h = let l : h.0 < n = omega (arith, h.1) in sym (every_false P n h.0 l (sym (each h.0 l) ∙ h.2 d))
