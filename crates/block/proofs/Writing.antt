-- Laws of the service write: its refusal, joined from the judgement of the tables and the buffer's length; and its answer.
-- Assumes nothing.
use mathlib.Core.Path.{◌≡◌, refl, sym, ◌∙◌, ap, ap₂}
use mathlib.Core.Bool.{Bool, true, false, ◌&&◌}
use mathlib.Core.List.{List}
use Prim.Native.Nat.{ℕ, ◌*◌}
use native.Mathlib.Omega.{arith}
use lib.Dec.{eqb}
use lib.ListN.{length}
use borrow.Author.Tests.{eqb-true, ne_eqb}
use Rattle.std.specs.Prelude.{Result, Err}
use Rattle.lex.proofs.Every.{and_left}
use Rattle.week.specs.declared.Refusal.{Refusal}
use Rattle.week.specs.declared.Refusal.TheVariants as V
use Rattle.week.specs.Refusal.{answer}
use Rattle.week.specs.Tables.{Week, lots, refusal, admits, joined, numbers_ok, lengths_ok}
use Rattle.week.proofs.Tables.{stops, passed_first, passed_rest, joined_admits}
use Rattle.block.specs.File.{blocks, file_of, written, write_refusal, write_of}
use Rattle.week.proofs.Numbered.{numbers_told}

-- a week that is not refused with 1 has its numbers within their limits
not_one : (W : Week) → (refusal W ≡ 1 → ⊥) → numbers_ok W.numbers ≡ true
unfolding admits
not_one W h = true_of (numbers_ok W.numbers) (λ e. h (sym (stops (numbers_ok W.numbers) 1 _ e (λ z. omega arith))))
  where
    true_of : (t : Bool) → (t ≡ false → ⊥) → t ≡ true
    true_of true g = refl
    true_of false g = absurd (g refl)

pub numbers_pass : (W : Week) {r : Result (Unit {0}) Refusal} → answer r ≡ refusal W → (r ≡ Err V.Numbers → ⊥) → numbers_ok W.numbers ≡ true
numbers_pass W e h = not_one W (λ z. h (numbers_told _ (e ∙ z)))

module _ (W : Week) (F : List ℕ) where
  -- the refusal as the code joins it
  pub write_joined : {m j : ℕ} → m ≡ blocks (lots W) → j ≡ refusal W → joined true (eqb (length F) (m * 512)) j ≡ write_refusal W F
  unfolding write_refusal
  write_joined e f = ap₂ (λ (m j : ℕ). joined true (eqb (length F) (m * 512)) j) e f ∙ joined_admits true (eqb (length F) (blocks (lots W) * 512)) W

  write_one : refusal W ≡ 1 → 1 ≡ write_refusal W F
  unfolding joined
  write_one e = sym (ap (joined true (eqb (length F) (blocks (lots W) * 512))) e) ∙ write_joined refl refl

  -- a buffer that is not refused has exactly the needed length
  pub write_length : write_refusal W F ≡ 0 → length F ≡ blocks (lots W) * 512
  unfolding write_refusal admits
  write_length e =
      eqb-true (length F) (blocks (lots W) * 512)
      (and_left (eqb (length F) (blocks (lots W) * 512)) (lengths_ok (lots W) W.domain W.loss W.give W.ties)
      (passed_first (eqb (length F) (blocks (lots W) * 512) && lengths_ok (lots W) W.domain W.loss W.give W.ties) 2 _ (λ z. omega arith)
      (passed_rest (numbers_ok W.numbers) 1 _ (λ z. omega arith) e)))

  pub write_refused : {k : ℕ} → k ≡ write_refusal W F → (k ≡ 0 → ⊥) → written k F ≡ write_of W F
  unfolding write_of
  write_refused {k} e h = rw (← e, ne_eqb k 0 h)

  pub write_done : {G : List ℕ} → write_refusal W F ≡ 0 → G ≡ file_of W → written 0 G ≡ write_of W F
  unfolding write_of
  write_done e f = rw (e, f)

  -- and as it answers: the numbers are refused before the length is known
  pub write_numbers : {r : Result (Unit {0}) Refusal} → answer r ≡ refusal W → r ≡ Err V.Numbers → written (answer r) F ≡ write_of W F
  write_numbers e f = rw f (write_refused (write_one (sym e ∙ ap answer f)) (λ z. omega arith))
