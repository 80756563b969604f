-- The bytes of a number, lowest first, as the library gives them.
-- Assumes nothing.
use mathlib.Core.Path.{◌≡◌, refl, sym, ◌∙◌, ap}
use mathlib.Core.Bool.{Bool, true, false}
use mathlib.Core.List.{List}
use Prim.Native.Nat.{ℕ, zero, suc, ◌+◌, ◌-◌, ◌≤◌, ◌<◌}
use native.Mathlib.Omega.{arith}
use lib.Dec.{eqb}
use lib.ListN.{length, get_or, take, drop, length-drop}
use lib.Pointwise.{pointwise}
use lib.Seq.{ext_get_or, get_or-take, get_or-drop, length-take-le}
use borrow.Author.Tests.{eqb-true, eq-eqb}
use Rattle.std.specs.Int.{w16, w32, to_le_bytes}
use Rattle.lex.specs.Lists.{list_of}
use Rattle.std.specs.Cmp.Lexicographic.{same_text, other_text}
use Rattle.lex.proofs.Every.{same_truth, every_true, every_at}
use Rattle.block.specs.Parts.{byte_of}
use Rattle.block.specs.Reading.{byte_is, holds4}
use Rattle.block.proofs.Parts.{list_from}

pub bytes_16 : (x j : ℕ) → j < 2 → get_or (to_le_bytes w16 x) j 0 ≡ byte_of x j
unfolding byte_of
bytes_16 x zero l = omega arith
bytes_16 x (suc zero) l = refl
bytes_16 x (suc (suc j)) l = absurd (omega arith)

pub bytes_32 : (x j : ℕ) → j < 4 → get_or (to_le_bytes w32 x) j 0 ≡ byte_of x j
unfolding byte_of
bytes_32 x zero l = omega arith
bytes_32 x (suc zero) l = refl
bytes_32 x (suc (suc zero)) l = refl
bytes_32 x (suc (suc (suc zero))) l = refl
bytes_32 x (suc (suc (suc (suc j)))) l = absurd (omega arith)

pub bytes_list : (x : ℕ) → to_le_bytes w32 x ≡ list_of (byte_of x) 4
bytes_list x = list_from (byte_of x) {n = 4} {i = 4} {s = to_le_bytes w32 x} refl (λ k l. bytes_32 x k l) (omega arith)

-- the four bytes from `at` on, compared with those of a number
module _ (F : List ℕ) (at x : ℕ) where
  four_at : (j : ℕ) → j < 4 → get_or (take (at + 4 - at) (drop at F)) j 0 ≡ get_or F (at + j) 0
  four_at j l = get_or-take (at + 4 - at) (drop at F) j 0 (omega arith) ∙ get_or-drop at F j 0

  pub four_stand : {s : List ℕ} {r : Bool} → at + 4 ≤ length F → s ≡ to_le_bytes w32 x → r ≡ pointwise eqb (take (at + 4 - at) (drop at F)) s → r ≡ holds4 F at x
  unfolding holds4 byte_is
  four_stand {s} {r} h e f =
      same_truth r (holds4 F at x)
      (λ t. every_true (byte_is F at x) 4 (λ j l. eq-eqb (get_or F (at + j) 0) (byte_of x j)
      (sym (four_at j l) ∙ (ap (λ (l : List ℕ). get_or l j 0) (same_text _ _ (sym t ∙ f) ∙ e) ∙ bytes_32 x j l))))
      (λ t. true_of r (λ g. other_text _ _ (sym g ∙ f) (equal t)))
    where
      true_of : (t : Bool) → (t ≡ false → ⊥) → t ≡ true
      true_of true g = refl
      true_of false g = absurd (g refl)

      equal : holds4 F at x ≡ true → take (at + 4 - at) (drop at F) ≡ s
      equal t =
          let d = length-drop at F in
          let n = length-take-le (at + 4 - at) (drop at F) (omega arith) in
          let m : length (to_le_bytes w32 x) ≡ 4 = refl in
          let n' : length (take (at + 4 - at) (drop at F)) ≡ length (to_le_bytes w32 x) = omega arith in
          ext_get_or 0 (take (at + 4 - at) (drop at F)) (to_le_bytes w32 x) n'
          (λ j l. let o : j < 4 = omega arith in four_at j o ∙ (eqb-true (get_or F (at + j) 0) (byte_of x j) (every_at (byte_is F at x) 4 j t o) ∙ sym (bytes_32 x j o)))
          ∙ sym e
