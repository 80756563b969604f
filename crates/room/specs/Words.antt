-- Words of slots, lot by lot, once some lots stand: forward words where the start are the domains and a partial order says which lots stand where; and what a
-- repair leaves of them where its decided moves m do. Assumes nothing.
use Rattle.std.specs.Prelude.{◌≡◌, cond, List, ℕ, zero, suc, ◌^◌, ◌<◌, eqb, length, get_or}
use Rattle.std.specs.Int.Bits.{bit_and}
use Rattle.week.specs.Rules.{tie_word}
use Rattle.parts.specs.Part.{placed}

-- word w of lot p once lot x gets slot v: x keeps its own
unfoldable pub met_in : ℕ → List ℕ → ℕ → ℕ → ℕ → ℕ → ℕ
met_in n ties w x v p = cond (eqb p x) w (bit_and w (tie_word n ties x v p))

-- the same, of lot p's word in a table
unfoldable pub met_word : ℕ → List ℕ → List ℕ → ℕ → ℕ → ℕ → ℕ
met_word n ties words x v p = met_in n ties (get_or words p 0) x v p

-- lot p's word once those of the k first lots that s places stand there
unfoldable pub met_by : ℕ → List ℕ → List ℕ → List ℕ → ℕ → ℕ → ℕ
met_by n ties words s zero p = get_or words p 0
met_by n ties words s (suc k) p = let w = met_by n ties words s k p in cond (placed 16 s k) (met_in n ties w k (get_or s k 0) p) w

-- the words of n lots, as the code makes them: each is that of f, in 16 bits
pub record Made (n : ℕ) (f : ℕ → ℕ) (words : List ℕ) : Type 0 where
  pub size : length words ≡ 24
  pub each : (p : ℕ) → p < n → get_or words p 0 ≡ f p
  pub narrow : (p : ℕ) → p < n → get_or words p 0 < 2 ^ 16
