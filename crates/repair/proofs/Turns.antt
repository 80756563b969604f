-- The turns of `first_repair`: what it knows of the slots so far, and each way on from the slot that `pick_slot` tells.
-- Assumes nothing.
use mathlib.Core.Path.{◌≡◌}
use mathlib.Core.List.{List}
use mathlib.Core.Option.{none, some}
use Prim.Native.Nat.{ℕ, ◌+◌, ◌-◌, ◌≤◌, ◌<◌}
use native.Mathlib.Omega.{arith}
use lib.ListN.{get_or, take, set, replicate}
use Rattle.std.specs.Prelude.{Some, None}
use Rattle.lex.specs.First.{Passes, always}
use Rattle.lex.specs.Scan.{scan_from}
use Rattle.lex.proofs.Search.{left}
use Rattle.lex.proofs.Turn.{State, Turn, state_start, turn_deeper, turn_deeper_less, turn_full, turn_padded, turn_good, turn_found, turn_last, turn_back, turn_back_less, turn_none}
use Rattle.week.specs.Rules.{Rules}
use Rattle.repair.specs.Repair.{Case, mends_half, repair_half, leads, leads_at}
use Rattle.repair.specs.Found.{Gives}
use Rattle.repair.proofs.Mends.{half_passes, half_is}
use Rattle.repair.proofs.Ahead.{leads_nil, leads_link, leads_half, leads_space}

module _ (R : Rules) (C : Case) where
  -- the first d slots of s lead on, and slot `from` is the next to try
  abbrev pub Begins : List ℕ → ℕ → ℕ → Type 0
  Begins s d from = State (Passes (mends_half R C) always 16 R.lots) R.lots 24 16 (leads R C) s d from

  pub begins : 1 ≤ R.lots → R.lots ≤ 24 → Begins (replicate 24 0) 0 0
  begins h l = state_start (leads_space R C) 24 h l (leads_nil R C)

module _ (R : Rules) (C : Case) {s : List ℕ} {d from : ℕ} (state : Begins R C s d from) (v : ℕ) (picked : v ≡ scan_from 16 (leads_at R C s d) from) where
  turn : Turn (Passes (mends_half R C) always 16 R.lots) R.lots 24 16 (leads R C) s d from v
  turn = record {
    space = leads_space R C;
    state = state;
    test = leads_at R C s d;
    link = leads_link R C s d (omega (arith, state.depth, state.room, state.size)) state.good;
    chosen = picked;
  }

  -- a slot is told, and it is the last
  pub whole : v < 16 → d + 1 ≡ R.lots → Gives (repair_half R C) (Some (record { slots = set s d v }))
  whole h e =
      let found = half_is R C (some (take R.lots (set s d v))) (turn_found turn (half_passes R C _ (turn_full turn e) (leads_half R C _ (turn_good turn h e))) e) in
      record { found = rw found; slots = rw found (turn_padded turn e) }

  -- or it is not
  pub deeper : v < 16 → d + 1 < R.lots → Begins R C (set s d v) (d + 1) 0
  deeper h l = turn_deeper turn h l

  pub deeper_less : v < 16 → d + 1 < R.lots → left 16 R.lots (set s d v) (d + 1) 0 < left 16 R.lots s d from
  deeper_less h l = turn_deeper_less turn h l

  -- none is told, and there is no lot before
  pub nothing : 16 ≤ v → d ≡ 0 → Gives (repair_half R C) None
  nothing h e =
      let found = half_is R C none (turn_none turn h e) in
      record { found = rw found; slots = tt }

  -- or there is
  pub last_low : 0 < d → get_or s (d - 1) 0 < 16
  last_low h = turn_last turn h

  pub back : 16 ≤ v → 0 < d → Begins R C s (d - 1) (get_or s (d - 1) 0 + 1)
  back h l = turn_back turn h l

  pub back_less : 0 < d → left 16 R.lots s (d - 1) (get_or s (d - 1) 0 + 1) < left 16 R.lots s d from
  back_less h = turn_back_less turn h
