-- The slots of one lot p, which s does not place, tried one after the other. A search that places lot after lot by recursion needs no more than this; it ends
-- since fewer lots are left (`count_place`). Assumes nothing.
use mathlib.Core.Path.{◌≡◌}
use mathlib.Core.Bool.{Bool, false}
use mathlib.Core.List.{List}
use Prim.Native.Nat.{ℕ, ◌+◌, ◌≤◌, ◌<◌}
use native.Mathlib.Decide.{dec_lt}
use native.Mathlib.Omega.{arith}
use lib.ListN.{length, get_or, set}
use Rattle.lex.proofs.Every.{not_both}
use Rattle.parts.specs.Part.{Needed, Decides, Above}
use Rattle.parts.proofs.Part.{extends_set}

pub above_start : (Q : List ℕ → Type 0) (n k : ℕ) (s : List ℕ) (p : ℕ) → Above Q n k s p 0
above_start Q n k s p t q e = omega arith

-- no slot is left
pub above_all : (Q : List ℕ → Type 0) (n k : ℕ) (ok : List ℕ → Bool) → Needed Q n k ok → (s : List ℕ) (p v : ℕ) (o : List ℕ) → p < n → k ≤ v → Above Q n k s p v → Decides Q n k s false o
above_all Q n k ok m s p v o l h a t q e = let b = a t q e in let c = m.under t q p l in omega arith

module _ (Q : List ℕ → Type 0) (n k : ℕ) (s : List ℕ) (p v : ℕ) (idle : k ≤ get_or s p 0) (inside : p < length s) (lot : p < n) where
  -- no order extends s with p in slot v
  pub above_next : (o : List ℕ) → Above Q n k s p v → Decides Q n k (set s p v) false o → Above Q n k s p (v + 1)
  above_next o a f t q e =
      let b = a t q e in
      elim (dec_lt v (get_or t p 0)) [
        | yes h ↦ omega arith
        | no h ↦ absurd (f t q (extends_set n k s p v inside t e (omega arith)))
      ]

  -- since that fails a test that is needed
  pub above_fails : (ok : List ℕ → Bool) → Needed Q n k ok → Above Q n k s p v → ok (set s p v) ≡ false → Above Q n k s p (v + 1)
  above_fails ok m a f = above_next s a (λ t q e. not_both (m.needed (set s p v) t q e) f)
