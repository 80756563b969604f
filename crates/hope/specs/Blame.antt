-- Reasons as the code makes them. A part of an order s is a partial order that s extends. Assumes nothing.
use Rattle.std.specs.Prelude.{◌≡◌, true, ◌||◌, cond, List, ℕ, ◌+◌, ◌≤◌, ◌<◌, leb, length, get_or}
use Rattle.week.specs.Rules.{Rules, bit_of, together}
use Rattle.parts.specs.Part.{placed, Extends, Merges}
use Rattle.cuts.specs.Hopes.{is_left}

-- r, in 24 places, is a part of s as far as the k first lots go
pub record Part (k : ℕ) (s r : List ℕ) : Type 0 where
  pub size : length r ≡ 24
  pub part : Extends k 16 r s

-- r, in 24 places, has the lots that a places, and those but x that b does
pub record Merged (a b : List ℕ) (x : ℕ) (r : List ℕ) : Type 0 where
  pub size : length r ≡ 24
  pub merges : Merges 24 16 a b x r

-- beside the lots that s places lot q has no slots but those of the word `target`
pub record Bound (R : Rules) (s : List ℕ) (q target : ℕ) : Type 0 where
  pub few : R.lots ≤ 24
  pub mirror : (p v x w : ℕ) → p < R.lots → v < 16 → x < R.lots → w < 16 → together R p v x w ≡ together R x w p v
  pub lot : q < R.lots
  pub bound : (v : ℕ) → is_left R s q v ≡ true → bit_of target v ≡ true

-- nor beside those of r, a part of s
pub record Blamed (R : Rules) (s : List ℕ) (q target : ℕ) (r : List ℕ) : Type 0 where
  pub size : length r ≡ 24
  pub part : Extends R.lots 16 r s
  pub bound : (v : ℕ) → is_left R r q v ≡ true → bit_of target v ≡ true

-- Groups

-- lot p's group, if it waits; else, or where that is no lot, a number of its own
unfoldable pub own_group : List ℕ → List ℕ → ℕ → ℕ
own_group s groups p = cond (placed 16 s p || leb 24 (get_or groups p 0)) (24 + p) (get_or groups p 0)

pub record OwnGroups (s groups : List ℕ) (n : ℕ) (own : List ℕ) : Type 0 where
  pub size : length own ≡ 24
  pub each : (p : ℕ) → p < n → get_or own p 0 ≡ own_group s groups p
