-- Rows of the repair table: what the code writes into one, and how the rows stand one behind the other.
-- Assumes nothing.
use mathlib.Core.Path.{◌≡◌, refl, sym, ◌∙◌, ap, ap₂}
use mathlib.Core.Bool.{true, false, true≢false}
use mathlib.Core.List.{List, [], ◌∷◌, ◌++◌, flat_map, append-nil, append_assoc}
use mathlib.Core.Option.{Option, none, some}
use Prim.Native.Nat.{ℕ, ◌+◌, ◌-◌, ◌*◌, ◌≤◌, ◌<◌}
use native.Mathlib.Omega.{arith}
use native.Mathlib.Numerals.{add-one}
use native.Mathlib.Nat.{suc-mul, zero-mul}
use borrow.Rule.Slice.PartMut.{put_mid}
use lib.ListN.{length, get_or, take, drop, length-append}
use lib.Seq.{take_all, take-suc, take-length, length-take-le, take_at}
use Rattle.std.specs.Prelude.{Some, None}
use Rattle.lex.specs.First.{is_found, or_old}
use Rattle.week.specs.declared.Order.{Order}
use Rattle.week.specs.Tables.{Week, lots, pair_rules, refusal}
use Rattle.week.proofs.Tables.{accepted}
use Rattle.repair.specs.Break.{breaks, lost_sets, row_count}
use Rattle.repair.specs.Found.{Gives}
use Rattle.repair.specs.Repair.{case, repair_half}
use Rattle.repair.proofs.Rows.{count_small}
use Rattle.repair.proofs.Mends.{repair_half_lem, half_long, found_take}
use Rattle.robust.specs.Super.{is_break, repair_for, row_of, row_sets, table_of}
use Rattle.robust.proofs.Rows.{count_most, set_fewer}
use Rattle.robust.proofs.Table.{to_within, row_size}

-- One row

module _ (W : Week) (s A : List ℕ) (fine : refusal W ≡ 0) where
  abbrev half : Option (List ℕ)
  half = repair_half (pair_rules W) (case W.numbers W.give s A)

  pub row_order : breaks W.loss s A ≡ false → s ≡ row_of W s A
  unfolding row_of is_break
  row_order f = rw f

  -- the row of a break
  row_break : breaks W.loss s A ≡ true → or_old half s ≡ row_of W s A
  unfolding row_of is_break repair_for
  row_break b = rw (b, repair_half_lem (pair_rules W) (case W.numbers W.give s A) (accepted W fine).symmetric)

  -- none was found: the order stands
  pub row_none : Gives half None → breaks W.loss s A ≡ true → s ≡ row_of W s A
  row_none g b = go half (sym g.found) ∙ row_break b
    where
      go : (o : Option (List ℕ)) → is_found o ≡ false → s ≡ or_old o s
      go none f = refl
      go (some r) f = absurd (true≢false f)

  -- what was found is written over the order
  pub row_mended : (to : Order) (k : ℕ) → k ≡ lots W → Gives half (Some to) → breaks W.loss s A ≡ true → take k to.slots ≡ row_of W s A
  row_mended to k e g b = ap₂ take e g.slots ∙ found_take (lots W) half s (half_long (pair_rules W) (case W.numbers W.give s A)) (sym g.found) ∙ row_break b

-- the order, as it is copied into a row of k bytes
pub order_copied : (W : Week) (s : List ℕ) (k : ℕ) (t : List ℕ) → length s ≡ lots W → k ≡ lots W → t ≡ take k s → t ≡ s
order_copied W s k t size e f = f ∙ take_all k s (omega arith)

-- Rows one behind the other

module _ (f : List ℕ → List ℕ) where
  flat_append : (l k : List (List ℕ)) → flat_map f (l ++ k) ≡ flat_map f l ++ flat_map f k
  unfolding flat_map
  flat_append [] k = refl
  flat_append (A ∷ l) k = rw (flat_append l k) (sym (append_assoc (f A) (flat_map f l) (flat_map f k)))

  -- one row more
  pub flat_more : (l : List (List ℕ)) (i : ℕ) → i < length l → flat_map f (take (i + 1) l) ≡ flat_map f (take i l) ++ f (get_or l i [])
  unfolding flat_map
  flat_more l i h = rw (add-one, take-suc l i [] h, flat_append, append-nil)

  pub flat_all : (l : List (List ℕ)) → flat_map f (take (length l) l) ≡ flat_map f l
  flat_all l = ap (flat_map f) (take-length l)

-- Places of rows

-- no row yet
pub flat_none : (f : List ℕ → List ℕ) (l : List (List ℕ)) (t : List ℕ) (n : ℕ) → take (0 * n) t ≡ flat_map f (take 0 l)
unfolding flat_map
flat_none f l t n = rw zero-mul

-- the place of row i in the table of an accepted week
module _ (W : Week) (table : List ℕ) (i : ℕ) (fine : refusal W ≡ 0) (room : length table ≡ row_count (lots W) W.numbers.a * lots W) (more : i < row_count (lots W) W.numbers.a) where
  small : row_count (lots W) W.numbers.a ≤ 600
  small = count_small (lots W) W.numbers.a (accepted W fine).limits.few (accepted W fine).limits.breaks

  pub place_inside : i * lots W + lots W ≤ length table
  place_inside = rw room (to_within (lots W) i _ (accepted W fine).limits.few more small)

-- the loss of row i has a number below those of two lots
pub place_loss : (W : Week) (i : ℕ) → refusal W ≡ 0 → i < row_count (lots W) W.numbers.a → (1 ≤ lots W) × ((lots W ≤ 24) × (i < row_count (lots W) 2))
place_loss W i fine more = let l = (accepted W fine).limits in (l.some, (l.few, let m = count_most (lots W) W.numbers.a l.breaks in omega arith))

-- A row written into its place: the rows before it stand, and it stands behind them

module _ (f : List ℕ → List ℕ) (l : List (List ℕ)) (n i k : ℕ) (table row : List ℕ) (whole : i * n + n ≤ length table) (part : k ≡ n) (size : length row ≡ n) where
  abbrev written : List ℕ
  written = put_mid (i * n) k table row

  length_before : length (take (i * n) table) ≡ i * n
  length_before = length-take-le (i * n) table (omega arith)

  pub written_rows : i < length l → take (i * n) table ≡ flat_map f (take i l) → row ≡ f (get_or l i []) → take ((i + 1) * n) written ≡ flat_map f (take (i + 1) l)
  written_rows h e g =
      ap (λ (t : List ℕ). take ((i + 1) * n) t) (sym (append_assoc (take (i * n) table) row (drop k (drop (i * n) table))))
      ∙ take_at (take (i * n) table ++ row) _ ((i + 1) * n) long
      ∙ ap₂ ◌++◌ e g
      ∙ sym (flat_more f l i h)
    where
      long : length (take (i * n) table ++ row) ≡ (i + 1) * n
      long =
          let a = length-append (take (i * n) table) row in
          let b = length_before in
          let c = suc-mul i n in
          rw add-one (omega arith)

-- row i of the table is written
pub row_written : (W : Week) (s A table row : List ℕ) (i : ℕ) → refusal W ≡ 0 → length s ≡ lots W → length table ≡ row_count (lots W) W.numbers.a * lots W → i < row_count (lots W) W.numbers.a → A ≡ get_or (lost_sets (lots W) 2) i [] → row ≡ row_of W s A → take (i * lots W) table ≡ flat_map (row_of W s) (take i (row_sets W)) → take ((i + 1) * lots W) (put_mid (i * lots W) (i * lots W + lots W - i * lots W) table row) ≡ flat_map (row_of W s) (take (i + 1) (row_sets W))
unfolding row_count
row_written W s A table row i fine long room more a r e = written_rows (row_of W s) (row_sets W) (lots W) i _ table row (place_inside W table i fine room more) (omega arith) (ap length here ∙ row_size W s _ fine long) more e here
  where
    here : row ≡ row_of W s (get_or (row_sets W) i [])
    here = r ∙ ap (row_of W s) (a ∙ sym (set_fewer (lots W) W.numbers.a i (accepted W fine).limits.breaks more))

-- every row is written
pub written_all : (W : Week) (s table : List ℕ) (i : ℕ) → i ≡ row_count (lots W) W.numbers.a → length table ≡ row_count (lots W) W.numbers.a * lots W → take (i * lots W) table ≡ flat_map (row_of W s) (take i (row_sets W)) → table ≡ table_of W s
unfolding table_of row_count
written_all W s table i e f g = sym (take_all (i * lots W) table (omega (arith, ap (λ (m : ℕ). m * lots W) e))) ∙ g ∙ rw e (flat_all (row_of W s) (row_sets W))
