-- What an iterator of the code answers, in the words of the specs: `all` over a list, neighbours in order, and the first slot that passes.
-- And counts, where the code adds a test's answer as a number.
-- Assumes nothing.
use mathlib.Core.Path.{◌≡◌, refl, sym, ◌∙◌, ap}
use mathlib.Core.Bool.{Bool, true, false, true≢false}
use mathlib.Core.List.{List}
use mathlib.Core.Logic.{⊎_elim}
use Prim.Native.Nat.{ℕ, ◌+◌, ◌-◌, ◌≤◌, ◌<◌}
use native.Mathlib.Omega.{arith}
use native.Mathlib.Nat.{le_antisymm}
use lib.Dec.{ltb}
use lib.ListN.{length}
use denote.Param.Members.{Mut}
use denote.Ref.{Bor}
use mir.Val.{bool_byte}
use Rattle.std.proofs.Common.{get_or, Iter}
use Rattle.std.specs.Iterator.{ChecksAll}
use Rattle.std.specs.List.{AllWithin, HoldsAt, IsAllAdjacentAnswer}
use Rattle.std.specs.Fn.{Called}
use Rattle.std.specs.Bool.{MatchBool}
use Rattle.std.specs.Prelude.{Option, Some, None, is_some, MatchOption}
use Rattle.std.specs.Option.{IsSomeAnd}
use Rattle.std.specs.Slice.Iter.{iter_rest}
use Rattle.std.proofs.iter.Yields.{fronts}
use Rattle.std.proofs.lemmas.Iterator.{cases_from_all, YieldsList-from_slice}
use Rattle.lex.specs.Every.{every, one_if, count}
use Rattle.lex.specs.Scan.{scan_from}
use Rattle.lex.proofs.Dictionary.{lt_or_le}
use Rattle.lex.proofs.Every.{every_true, every_false, not_both, count_step, count_le, one_if_le}
use Rattle.lex.proofs.Scan.{Picked, scan_picked, scan_end}
use Rattle.week.specs.declared.Slot.{Slot}
use Rattle.repair.specs.Break.{lot_ascends}
use Rattle.repair.specs.Found.{Picks}

-- `all` over a list, where the closure asks the test P of each number
module _ {F : Type 0} {g : Mut F (Bor ℕ × Unit {0}) Bool} (s u : Iter ℕ) (f : F) (r : Bool) (P : ℕ → Bool) (A : List ℕ)
    (whole : iter_rest s ≡ A) (asks : (x : Bor ℕ) (b : Bool) (q : F) → Called g f (x, tt) b q → (q ≡ f) × (b ≡ P x.now)) where
  pub all_items : ChecksAll fronts g s f r u → r ≡ every (λ i. P (get_or A i 0)) (length A)
  all_items d =
      told r
      (cases_from_all u f r (λ x. P x ≡ true) (λ x. P x ≡ false) d (YieldsList-from_slice A whole)
      (λ x q c. let h = asks x true q c in (h.0, sym h.1)) (λ x q c. let h = asks x false q c in sym h.1))
    where
      told : (b : Bool) → MatchBool b (AllWithin (λ x. P x ≡ true) A 0 (length A)) ((k : ℕ) × (k < length A) × HoldsAt (λ x. P x ≡ false) A k) → b ≡ every (λ i. P (get_or A i 0)) (length A)
      told true h = sym (every_true (λ i. P (get_or A i 0)) (length A) (λ k l. h k 0 (omega arith) l))
      told false h = sym (every_false (λ i. P (get_or A i 0)) (length A) h.0 h.1 (h.2 0))

-- each lot below the next
pub ascend_all : (A : List ℕ) (r : Bool) → IsAllAdjacentAnswer (λ x y b. b ≡ ltb x y) A r → r ≡ every (lot_ascends A) (length A - 1)
unfolding lot_ascends
ascend_all A true h = sym (every_true (lot_ascends A) (length A - 1) (λ k l. sym (h k 0 (omega arith))))
ascend_all A false h = sym (every_false (lot_ascends A) (length A - 1) h.0 (omega (arith, h.1)) (sym (h.2 0)))

-- the first number from v on, below k, that passes f
module _ (k : ℕ) (f : ℕ → Bool) (v : ℕ) where
  -- none does
  pub scan_none : ((j : ℕ) → v ≤ j → j < k → f j ≡ false) → k ≤ scan_from k f v
  scan_none h = ⊎_elim (λ (m : k < v). omega (arith, scan_end k f v (omega arith))) (λ (m : v ≤ k). inside m (scan_picked k f v m)) (lt_or_le k v)
    where
      inside : v ≤ k → Picked k f v (scan_from k f v) → k ≤ scan_from k f v
      inside m p =
          ⊎_elim (λ (l : scan_from k f v < k). absurd (not_both (p.hit l) (h (scan_from k f v) (p.low l) l))) (λ (l : k ≤ scan_from k f v). l)
          (lt_or_le (scan_from k f v) k)

  -- i does, and none before it
  pub scan_at : (i : ℕ) → v ≤ i → i < k → f i ≡ true → ((j : ℕ) → v ≤ j → j < i → f j ≡ false) → i ≡ scan_from k f v
  scan_at i h l e m = go (scan_picked k f v (omega arith))
    where
      above : Picked k f v (scan_from k f v) → scan_from k f v ≤ i → i ≡ scan_from k f v
      above p q =
          ⊎_elim (λ (w : scan_from k f v < i). absurd (not_both (p.hit (omega arith)) (m (scan_from k f v) (p.low (omega arith)) w)))
          (λ (w : i ≤ scan_from k f v). le_antisymm w q) (lt_or_le (scan_from k f v) i)

      go : Picked k f v (scan_from k f v) → i ≡ scan_from k f v
      go p = ⊎_elim (λ (q : i < scan_from k f v). absurd (not_both e (p.miss i h q))) (λ (q : scan_from k f v ≤ i). above p q) (lt_or_le i (scan_from k f v))

-- the slot that `find` tells, r, becomes the answer a
pub picked : (f : ℕ → Bool) (from : ℕ) (r : Option ℕ) (a : Option Slot)
    → MatchOption r ((k : ℕ) → from ≤ k → k < 16 → f k ≡ false) (λ i. (from ≤ i) × (i < 16) × (f i ≡ true) × ((k : ℕ) → from ≤ k → k < i → f k ≡ false))
    → is_some a ≡ is_some r → MatchOption r (a ≡ None) (λ i. IsSomeAnd a (λ v. v.0 ≡ i)) → Picks f from a
picked f from None None h e m = scan_none 16 f from h
picked f from None (Some v) h e m = absurd (true≢false e)
picked f from (Some i) None h e m = absurd (true≢false (sym e))
picked f from (Some i) (Some v) h e m = (m ∙ scan_at 16 f from i h.0 h.1 h.2 h.3, rw m h.1)

-- A test's answer, added as a number

pub byte_one : (b : Bool) → bool_byte b ≡ one_if b
byte_one true = refl
byte_one false = refl

module _ (f : ℕ → Bool) (i m e : ℕ) (b : Bool) (counted : m ≡ count f i) (is : e ≡ bool_byte b) where
  -- number i itself is counted, or another test t
  pub count_other : (t : Bool) → b ≡ t → m + e ≡ count f i + one_if t
  count_other t h = omega (arith, byte_one b, ap one_if h)

  pub count_more : b ≡ f i → m + e ≡ count f (i + 1)
  count_more h = count_other (f i) h ∙ sym (count_step f i)

  pub count_low : m + e ≤ i + 1
  count_low = omega (arith, byte_one b, one_if_le b, count_le f i)
