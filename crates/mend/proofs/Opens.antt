-- The word of the slots that are open to a lot, as the code makes it by the pair rules R, lot after lot. Assumes nothing.
use mathlib.Core.Path.{◌≡◌, sym, ◌∙◌, ap, ap₂}
use mathlib.Core.Bool.{Bool, ◌&&◌, and-true, and_assoc}
use mathlib.Core.List.{List}
use Prim.Native.Nat.{ℕ, ◌+◌, ◌≤◌, ◌<◌}
use native.Mathlib.Numerals.{add-one}
use lib.Bits.{bit_and}
use lib.ListN.{get_or}
use borrow.Author.Tests.{lt-ltb, le-ltb}
use Rattle.lex.specs.Every.{imp, every}
use Rattle.week.specs.Rules.{Rules, bit_of, tie_word}
use Rattle.week.specs.Tables.{Week, lots, pair_rules}
use Rattle.week.proofs.Words.{bit_and_lem}
use Rattle.parts.specs.Part.{placed}
use Rattle.mend.specs.Mend.{opens, Opens}

module _ (R : Rules) (m : List ℕ) (x : ℕ) where
  abbrev beside : ℕ → ℕ → Bool
  beside v q = imp (placed 16 m q) (bit_of (tie_word R.lots R.ties q (get_or m q 0) x) v)

  abbrev Open : ℕ → ℕ → Type 0
  Open k own = Opens R.lots R.domain R.ties m x k own

  pub opens_start : (own : ℕ) → own ≡ get_or R.domain x 0 → Open 0 own
  unfolding opens every
  opens_start own e v = rw (e, and-true)

  module _ (k own : ℕ) (c : Open k own) where
    step : (v : ℕ) → (opens R.lots R.domain R.ties m x k v && beside v k) ≡ opens R.lots R.domain R.ties m x (k + 1) v
    unfolding opens every
    step v = and_assoc (bit_of (get_or R.domain x 0) v) (every (beside v) k) (beside v k) ∙ sym (rw add-one)

    -- lot k is decided for slot w
    pub opens_yes : (w y new : ℕ) → w ≡ get_or m k 0 → w < 16 → y ≡ tie_word R.lots R.ties k w x → new ≡ bit_and own y → Open (k + 1) new
    opens_yes w y new e h f g v =
        rw g (bit_and_lem own y v ∙ ap₂ ◌&&◌ (c v) (rw (← e, lt-ltb w 16 h, f))) ∙ step v

    -- it is not decided
    pub opens_no : (w new : ℕ) → w ≡ get_or m k 0 → 16 ≤ w → new ≡ own → Open (k + 1) new
    opens_no w new e h g v = rw g (c v ∙ sym (and-true (opens R.lots R.domain R.ties m x k v)) ∙ ap (λ (b : Bool). opens R.lots R.domain R.ties m x k v && b) (rw (← e, le-ltb w 16 h))) ∙ step v

    -- all lots are passed, and the rules are the week's
    pub opens_end : (W : Week) → R ≡ pair_rules W → k ≡ R.lots → Opens (lots W) W.domain W.ties m x (lots W) own
    opens_end W e h v = rw h at (c v) ∙ ap (λ (Q : Rules). opens Q.lots Q.domain Q.ties m x Q.lots v) e
