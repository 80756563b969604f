-- How long a text can be: the longest plan has room in its buffer, and so has a refusal.
-- Assumes nothing.
use mathlib.Core.Path.{◌≡◌, refl, sym, ◌∙◌}
use mathlib.Core.Bool.{Bool, true, false, cond}
use mathlib.Core.List.{List, [], ◌∷◌, ◌++◌, flat_map}
use Prim.Native.Nat.{ℕ, zero, suc, ◌+◌, ◌-◌, ◌*◌, ◌/◌, ◌%◌, ◌≤◌, ◌<◌}
use native.Mathlib.Omega.{arith}
use native.Mathlib.Nat.{suc-mul, mul-le-mul}
use lib.Dec.{leb, ltb}
use lib.ListN.{length, get_or, drop, length-append, length-take}
use borrow.Author.Tests.{leb-true}
use Rattle.lex.specs.Every.{every, every_of}
use Rattle.lex.proofs.Every.{every_at}
use Rattle.pairs.specs.Pairs.{lots_from, pair, pairs_of, pairs}
use Rattle.repair.specs.Break.{single, singles, lost_sets, row_count, row_at}
use Rattle.repair.proofs.Numbering.{count_two}
use Rattle.repair.proofs.Rows.{count_none, count_one}
use Rattle.robust.proofs.Rows.{every_row, set_fewer, count_most}
use Rattle.week.specs.Tables.{Week, lots, refusal}
use Rattle.week.proofs.Tables.{accepted}
use Rattle.print.specs.Text.{plan_word, lost_word, colon_word, refused_word, newline, digits, field, fields, plan_line, lost_line, refused_line, room}
use Rattle.print.specs.Put.{Fits, pieces, table_line, table_text}

-- How many rows, and how large their sets

module _ (n : ℕ) (few : n ≤ 24) where
  pub rows_most : (a : ℕ) → a ≤ 2 → row_count n a ≤ 300
  rows_most zero l = rw count_none (omega arith)
  rows_most (suc zero) l = rw count_one (omega arith)
  rows_most (suc (suc zero)) l = rw (count_two n few) (let m = mul-le-mul {n₁ = n} {m₁ = n - 1} {n₂ = 24} {m₂ = 23} few (omega arith) in omega arith)
  rows_most (suc (suc (suc a))) l = absurd (omega arith)

  pub area_most : (a : ℕ) → a ≤ 2 → row_count n a * n ≤ 7200
  area_most a l = mul-le-mul {n₁ = row_count n a} {m₁ = n} {n₂ = 300} {m₂ = 24} (rows_most a l) few

small : List ℕ → Bool
small A = leb (length A) 2

small_sets : ℕ → Bool
small_sets n = every_of small (lost_sets n 2)

all_small : every small_sets 25 ≡ true
unfolding every every_of flat_map lots_from single pair singles pairs_of pairs lost_sets small small_sets
all_small = refl

set_small : (n a i : ℕ) → n ≤ 24 → a ≤ 2 → i < row_count n a → length (get_or (lost_sets n a) i []) ≤ 2
unfolding small small_sets row_count
set_small n a i few h l =
    let each : every (λ i. small (get_or (lost_sets n 2) i [])) (length (lost_sets n 2)) ≡ true = sym (every_row small (lost_sets n 2)) ∙ every_at small_sets 25 n all_small (omega arith) in
    let m = count_most n a h in
    rw (set_fewer n a i h l) (leb-true (length (get_or (lost_sets n 2) i [])) 2 (every_at (λ i. small (get_or (lost_sets n 2) i [])) (length (lost_sets n 2)) i each (omega arith)))

-- How long each part is

digits_most : (x : ℕ) → length (digits x) ≤ 2
unfolding digits
digits_most x = go (ltb x 10)
  where
    go : (t : Bool) → length (cond t ((48 + x) ∷ []) ((48 + x / 10 % 10) ∷ (48 + x % 10) ∷ [])) ≤ 2
    go true = omega arith
    go false = omega arith

field_most : (x : ℕ) → length (field x) ≤ 3
unfolding field
field_most x = let d = digits_most x in omega arith

fields_most : (s : List ℕ) → length (fields s) ≤ 3 * length s
unfolding fields flat_map
fields_most [] = omega arith
fields_most (x ∷ s) = let e = length-append (field x) (flat_map field s) in let d = field_most x in let r = fields_most s in omega arith

plan_most : (s : List ℕ) → length (plan_line s) ≤ 5 + 3 * length s
unfolding plan_line plan_word newline
plan_most s = let e = length-append (fields s) (10 ∷ []) in let f = fields_most s in omega arith

lost_most : (A r : List ℕ) → length (lost_line A r) ≤ 7 + 3 * length A + 3 * length r
unfolding lost_line lost_word colon_word newline
lost_most A r =
    let e = length-append (fields A) (32 ∷ 58 ∷ (fields r ++ (10 ∷ []))) in
    let f = length-append (fields r) (10 ∷ []) in
    let g = fields_most A in
    let h = fields_most r in
    omega arith

pub refused_most : (k : ℕ) → length (refused_line k) ≤ room
unfolding refused_line refused_word newline room
refused_most k = let e = length-append (field k) (10 ∷ []) in let d = field_most k in omega arith

pub refused_fits : (k : ℕ) (out : List ℕ) → length out ≡ room → Fits (refused_line k) 0 out
refused_fits k out h = record { room = let m = refused_most k in omega arith }

pieces_most : (f : ℕ → List ℕ) (b n : ℕ) → ((i : ℕ) → i < n → length (f i) ≤ b) → length (pieces f n) ≤ n * b
unfolding pieces
pieces_most f b zero h = omega arith
pieces_most f b (suc n) h =
    let e = length-append (pieces f n) (f n) in
    let m = suc-mul n b in
    let r = pieces_most f b n (λ i l. h i (omega arith)) in
    let s = h n (omega arith) in
    omega arith

-- The longest plan: 24 lots, 300 rows

module _ (n a : ℕ) (order table : List ℕ) (few : n ≤ 24) (at_most : a ≤ 2) (size : length order ≡ n) where
  line_most : (i : ℕ) → i < row_count n a → length (table_line n a table i) ≤ 85
  unfolding table_line row_at
  line_most i l =
      let m = lost_most (get_or (lost_sets n a) i []) (row_at n table i) in
      let s = set_small n a i few at_most l in
      let t = length-take n (drop (i * n) table) in
      omega arith

  pub table_most : length (table_text n a order table) ≤ room
  unfolding table_text room
  table_most =
      let e = length-append (plan_line order) (pieces (table_line n a table) (row_count n a)) in
      let p = plan_most order in
      let r = pieces_most (table_line n a table) 85 (row_count n a) line_most in
      let s = rows_most n few a at_most in
      omega arith

  pub table_fits : (out : List ℕ) → length out ≡ room → Fits (table_text n a order table) 0 out
  table_fits out h = record { room = let m = table_most in omega arith }

-- The table of an accepted week fits its buffer
pub area_small : (W : Week) → refusal W ≡ 0 → (rows : ℕ) → rows ≡ row_count (lots W) W.numbers.a → rows * lots W ≤ 7200
area_small W fine rows e =
    let l = (accepted W fine).limits in
    rw e (area_most (lots W) l.few W.numbers.a l.breaks)
