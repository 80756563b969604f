-- Moves as the code reads them, pair by pair: a closure that tests every pair, or whether some pair passes, tests the moves.
-- Assumes nothing.
use mathlib.Core.Path.{◌≡◌, refl, sym, ◌∙◌, ap}
use mathlib.Core.Bool.{Bool, true, false, ◌&&◌, or-true}
use mathlib.Core.List.{List, [], ◌∷◌}
use Prim.Native.Nat.{ℕ, zero, suc, ◌+◌, ◌/◌, ◌≤◌, ◌<◌}
use native.Mathlib.Omega.{arith}
use native.Mathlib.Numerals.{add-one}
use lib.ListN.{length, get_or, set, drop}
use lib.Seq.{drop-cons}
use denote.Param.Members.{Mut}
use denote.Ref.{Bor}
use Rattle.std.proofs.Common.{Iter}
use Rattle.std.specs.Slice.Iter.{iter_rest}
use Rattle.std.specs.Iterator.{ChecksAll, ChecksAny}
use Rattle.std.specs.List.{AllWithin, HoldsAt}
use Rattle.std.specs.Simd.{first_chunks}
use Rattle.std.specs.Fn.{Called}
use Rattle.std.specs.Bool.{MatchBool}
use Rattle.std.proofs.iter.Yields.{fronts}
use Rattle.std.proofs.lemmas.Iterator.{cases_from_all, cases_from_any, YieldsList-from_slice}
use Rattle.std.proofs.lemmas.List.{drop_all}
use Rattle.lex.specs.Every.{every_of, some_of}
use Rattle.lex.proofs.Every.{both, false_of, not_both, and_right}
use Rattle.sheet.specs.declared.Move.{Move as Held}
use Rattle.sheet.specs.Moves.{Move, move, move_of, move_at, moves_at, moves_of, placed_all, marked_all}

module _ (P : Move → Bool) where
  passes : (m : List (List ℕ)) → ((k : ℕ) (d : List ℕ) → 0 ≤ k → k < length m → P (move_at (get_or m k d)) ≡ true) → every_of P (moves_at m) ≡ true
  unfolding every_of
  passes [] h = refl
  passes (b ∷ m) h = both (h 0 b (omega arith) (omega arith)) (passes m (λ k d l n. h (suc k) d (omega arith) (omega arith)))

  fails : (m : List (List ℕ)) (k : ℕ) → k < length m → ((d : List ℕ) → P (move_at (get_or m k d)) ≡ false) → every_of P (moves_at m) ≡ false
  unfolding every_of
  fails [] k l h = absurd (omega arith)
  fails (b ∷ m) zero l h = rw (h b)
  fails (b ∷ m) (suc k) l h = false_of (P (move_at b) && every_of P (moves_at m)) (λ e. not_both (and_right (P (move_at b)) (every_of P (moves_at m)) e) (fails m k (omega arith) h))

  some : (m : List (List ℕ)) (k : ℕ) → k < length m → ((d : List ℕ) → P (move_at (get_or m k d)) ≡ true) → some_of P (moves_at m) ≡ true
  unfolding some_of
  some [] k l h = absurd (omega arith)
  some (b ∷ m) zero l h = rw (h b)
  some (b ∷ m) (suc k) l h = rw (some m k (omega arith) h) (or-true (P (move_at b)))

  none : (m : List (List ℕ)) → ((k : ℕ) (d : List ℕ) → 0 ≤ k → k < length m → P (move_at (get_or m k d)) ≡ false) → some_of P (moves_at m) ≡ false
  unfolding some_of
  none [] h = refl
  none (b ∷ m) h = rw (h 0 b (omega arith) (omega arith)) (none m (λ k d l n. h (suc k) d (omega arith) (omega arith)))

  module _ {F : Type 0} {g : Mut F (Bor (List ℕ) × Unit {0}) Bool} (s u : Iter (List ℕ)) (f : F) (r : Bool) (m : List (List ℕ))
      (whole : iter_rest s ≡ m) (asks : (x : Bor (List ℕ)) (b : Bool) (q : F) → Called g f (x, tt) b q → (q ≡ f) × (b ≡ P (move_at x.now))) where
    pub all_moves : ChecksAll fronts g s f r u → r ≡ every_of P (moves_at m)
    all_moves d =
        told r
        (cases_from_all u f r (λ b. P (move_at b) ≡ true) (λ b. P (move_at b) ≡ false) d (YieldsList-from_slice m whole)
        (λ x q c. let h = asks x true q c in (h.0, sym h.1)) (λ x q c. let h = asks x false q c in sym h.1))
      where
        told : (b : Bool) → MatchBool b (AllWithin (λ b. P (move_at b) ≡ true) m 0 (length m)) ((k : ℕ) × (k < length m) × HoldsAt (λ b. P (move_at b) ≡ false) m k) → b ≡ every_of P (moves_at m)
        told true h = sym (passes m h)
        told false h = sym (fails m h.0 h.1 h.2)

    pub any_moves : ChecksAny fronts g s f r u → r ≡ some_of P (moves_at m)
    any_moves d =
        told r
        (cases_from_any u f r (λ b. P (move_at b) ≡ true) (λ b. P (move_at b) ≡ false) d (YieldsList-from_slice m whole)
        (λ x q c. let h = asks x true q c in sym h.1) (λ x q c. let h = asks x false q c in (h.0, sym h.1)))
      where
        told : (b : Bool) → MatchBool b ((k : ℕ) × (k < length m) × HoldsAt (λ b. P (move_at b) ≡ true) m k) (AllWithin (λ b. P (move_at b) ≡ false) m 0 (length m)) → b ≡ some_of P (moves_at m)
        told true h = sym (some m h.0 h.1 h.2)
        told false h = sym (none m h)

-- the whole pairs of a list of bytes are its moves
pub pairs_of : (k : ℕ) (m : List ℕ) → k ≡ length m / 2 → moves_at (first_chunks 2 k m) ≡ moves_of m
unfolding moves_of
pairs_of zero [] e = refl
pairs_of zero (p ∷ []) e = refl
pairs_of zero (p ∷ v ∷ m) e = absurd (omega arith)
pairs_of (suc k) [] e = absurd (omega arith)
pairs_of (suc k) (p ∷ []) e = absurd (omega arith)
pairs_of (suc k) (p ∷ v ∷ m) e = ap (λ (l : List Move). move p v ∷ l) (pairs_of k m (omega arith))

-- the moves from pair k on: what a loop over pairs knows
module _ (m : List (List ℕ)) (k : ℕ) (d : List ℕ) (l : k < length m) where
  pub pairs_more : moves_at (drop k m) ≡ move_at (get_or m k d) ∷ moves_at (drop (k + 1) m)
  pairs_more = rw (drop-cons m k d l, add-one k)

  module _ {r out : List ℕ} (s : List ℕ) (x : Held) (is : move_of x ≡ move_at (get_or m k d)) where
    pub placed_more : out ≡ set s x.lot.0 x.slot.0 → placed_all (moves_at (drop k m)) s ≡ r → placed_all (moves_at (drop (k + 1) m)) out ≡ r
    unfolding placed_all
    placed_more e h =
        ap (placed_all (moves_at (drop (k + 1) m))) e
        ∙ (ap (λ (y : Move). placed_all (moves_at (drop (k + 1) m)) (set s y.lot y.slot)) is
        ∙ (sym (ap (λ (l : List Move). placed_all l s) pairs_more) ∙ h))

    pub marked_more : (n : ℕ) → out ≡ set s x.lot.0 n → marked_all n (moves_at (drop k m)) s ≡ r → marked_all n (moves_at (drop (k + 1) m)) out ≡ r
    unfolding marked_all
    marked_more n e h =
        ap (marked_all n (moves_at (drop (k + 1) m))) e
        ∙ (ap (λ (y : Move). marked_all n (moves_at (drop (k + 1) m)) (set s y.lot n)) is
        ∙ (sym (ap (λ (l : List Move). marked_all n l s) pairs_more) ∙ h))

module _ (m : List (List ℕ)) (k : ℕ) (l : length m ≤ k) where
  pairs_none : moves_at (drop k m) ≡ []
  pairs_none = ap moves_at (drop_all k m l)

  pub placed_last : (s : List ℕ) → placed_all (moves_at (drop k m)) s ≡ s
  unfolding placed_all
  placed_last s = ap (λ (x : List Move). placed_all x s) pairs_none

  pub marked_last : (n : ℕ) (s : List ℕ) → marked_all n (moves_at (drop k m)) s ≡ s
  unfolding marked_all
  marked_last n s = ap (λ (x : List Move). marked_all n x s) pairs_none
