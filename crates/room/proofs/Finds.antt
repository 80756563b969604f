-- `find` over the numbers below n, where the closure asks a test of each: it gives the first that passes. Assumes nothing.
use mathlib.Core.Path.{◌≡◌, sym}
use mathlib.Core.Bool.{Bool, true, false}
use mathlib.Core.List.{List}
use Prim.Native.Nat.{ℕ, ◌≤◌, ◌<◌}
use native.Mathlib.Decide.{dec_lt}
use native.Mathlib.Omega.{arith}
use denote.Param.Members.{Mut}
use denote.Ref.{Bor}
use Rattle.std.specs.declared.ops.Range.{Range}
use Rattle.std.specs.declared.option.Option.{Option}
use Rattle.std.specs.declared.option.Option.TheVariants.{None, Some}
use Rattle.std.specs.Iterator.{YieldsThen}
use Rattle.std.specs.List.{FoldsTo}
use Rattle.std.specs.Fn.{CalledAt}
use Rattle.std.specs.Option.{MatchOption, unwrap_or}
use Rattle.std.proofs.iter.Yields.{nat_range_steps}
use Rattle.std.proofs.lemmas.Iterator.{first_from_Range}
use Rattle.lex.specs.Scan.{scan_from}
use Rattle.lex.proofs.Every.{not_both}
use Rattle.lex.proofs.Scan.{scan_picked}

-- i passes, or is n, and none below it passes
pub scan_first : (P : ℕ → Bool) (n i : ℕ) → i ≤ n → (i < n → P i ≡ true) → ((k : ℕ) → k < i → P k ≡ false) → i ≡ scan_from n P 0
scan_first P n i l hit miss =
    let r = scan_picked n P 0 (omega arith) in
    elim (dec_lt i (scan_from n P 0)) [
      | yes h ↦ absurd (not_both (hit (omega (arith, r.high))) (r.miss i (omega arith) h))
      | no h ↦ elim (dec_lt (scan_from n P 0) i) [
        | yes k ↦ absurd (not_both (r.hit (omega arith)) (miss (scan_from n P 0) k))
        | no k ↦ omega arith
      ]
    ]

module _ {F : Type 0} {g : Mut F (Bor ℕ × Unit {0}) Bool} (s u : Range ℕ) (f : F) (r : Option ℕ) (P : ℕ → Bool) (n : ℕ)
    (range : s ≡ record { start = 0; end = n }) (asks : (x : ℕ) (b : Bool) (q : F) → CalledAt g f x b q → (q ≡ f) × (b ≡ P x)) where
  pub find_range : (xs : List ℕ) × (j : F) × YieldsThen nat_range_steps s xs r u × FoldsTo (λ p x q. CalledAt g p x false q) f xs j × MatchOption r (Unit {0}) (λ x. (h : F) × CalledAt g j x true h) → unwrap_or r n ≡ scan_from n P 0
  find_range d =
      told r
      (first_from_Range s u f r (λ x. P x ≡ true) (λ x. P x ≡ false) d
      (λ x q c. sym (asks x true q c).1) (λ x q c. let h = asks x false q c in (h.0, sym h.1)))
    where
      told : (o : Option ℕ) → MatchOption o ((k : ℕ) → s.start ≤ k → k < s.end → P k ≡ false) (λ i. (s.start ≤ i) × (i < s.end) × (P i ≡ true) × ((k : ℕ) → s.start ≤ k → k < i → P k ≡ false)) → unwrap_or o n ≡ scan_from n P 0
      told None h = scan_first P n n (omega arith) (λ l. absurd (omega arith)) (λ k l. h k (rw range (omega arith)) (rw range l))
      told (Some i) h =
          let e : i < n = rw range at h.1 in
          scan_first P n i (omega arith) (λ l. h.2) (λ k l. h.3 k (rw range (omega arith)) l)
