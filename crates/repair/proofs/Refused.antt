-- What a service's answer says of its Result: no refusal has the number 0.
-- Assumes nothing.
use mathlib.Core.Path.{◌≡◌, refl, sym}
use mathlib.Core.Bool.{true, false, true≢false}
use Rattle.std.specs.Prelude.{Result, Ok, Err}
use Rattle.std.specs.Result.{is_err}
use Rattle.week.specs.declared.Refusal.{Refusal}
use Rattle.week.specs.Refusal.{answer}
use Rattle.week.proofs.Numbered.{number_some}

module _ {A : Type 0} where
  pub answer_good : (r : Result A Refusal) → false ≡ is_err r → answer r ≡ 0
  answer_good (Ok x) e = refl
  answer_good (Err r) e = absurd (true≢false (sym e))

  pub answer_bad : (r : Result A Refusal) → true ≡ is_err r → answer r ≡ 0 → ⊥
  answer_bad (Ok x) e = absurd (true≢false e)
  answer_bad (Err r) e = number_some r
