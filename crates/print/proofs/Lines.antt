-- Laws of the parts of a text: a field, the fields of a loss, and the line of a row.
-- Assumes nothing.
use mathlib.Core.Path.{◌≡◌, refl, sym, ◌∙◌, ap, ap₂}
use mathlib.Core.Bool.{Bool, true, false}
use mathlib.Core.List.{List, [], ◌∷◌, ◌++◌, flat_map, append-nil}
use Prim.Native.Nat.{ℕ, ◌+◌, ◌-◌, ◌*◌, ◌/◌, ◌%◌, ◌≤◌, ◌<◌}
use native.Mathlib.Omega.{arith}
use lib.Dec.{eqb}
use lib.ListN.{get_or, take, drop}
use borrow.Author.Tests.{eqb-true, eqb-false, lt-ltb, le-ltb}
use Rattle.repair.specs.declared.Lost.{Lost}
use Rattle.pairs.specs.Pairs.{pair}
use Rattle.repair.specs.Break.{single, lost_sets, row_count, row_at}
use Rattle.repair.specs.Found.{lots_of}
use Rattle.repair.proofs.Break.{lots_single, lots_pair}
use Rattle.robust.proofs.Rows.{set_fewer}
use Rattle.print.specs.Text.{digits, field, fields, lost_line}
use Rattle.print.specs.Put.{Fits, Put, pieces, table_line}
use Rattle.print.proofs.Put.{put_more, put_as, fits_as, fits_first, fits_rest, pieces_more, pieces_fit}

-- A field: a space, then one digit or two

abbrev tens : ℕ → List ℕ
tens x = (48 + x / 10 % 10) ∷ []

abbrev ones : ℕ → List ℕ
ones x = (48 + x % 10) ∷ []

module _ (x : ℕ) where
  pub field_one : x < 10 → field x ≡ (32 ∷ []) ++ ((48 + x) ∷ [])
  unfolding field digits
  field_one h = rw (lt-ltb x 10 h)

  pub field_two : 10 ≤ x → field x ≡ (32 ∷ []) ++ (tens x ++ ones x)
  unfolding field digits
  field_two h = rw (le-ltb x 10 h)

-- The fields of a loss: its first lot, and its last where that is another

module _ (L : Lost) where
  abbrev first : ℕ
  first = L.0.0

  abbrev last : ℕ
  last = L.1.0

  lots_one : first ≡ last → fields (lots_of L) ≡ field first
  unfolding fields flat_map single
  lots_one h = ap fields (lots_single L h) ∙ append-nil (field first)

  lots_two : (first ≡ last → ⊥) → fields (lots_of L) ≡ field first ++ field last
  unfolding fields flat_map pair
  lots_two h = ap fields (lots_pair L h) ∙ ap (λ (t : List ℕ). field first ++ t) (append-nil (field last))

  pub first_fits : {l : List ℕ} {at : ℕ} → Fits (fields (lots_of L)) at l → Fits (field first) at l
  first_fits {l} {at} h = go (eqb first last) refl
    where
      go : (t : Bool) → eqb first last ≡ t → Fits (field first) at l
      go true e = fits_as (lots_one (eqb-true first last e)) h
      go false e = fits_first (field first) (field last) (fits_as (lots_two (eqb-false first last e)) h)

  pub last_fits : {l m : List ℕ} {at e : ℕ} → (first ≡ last → ⊥) → Fits (fields (lots_of L)) at l → Put (field first) at l e m → Fits (field last) e m
  last_fits n h a = fits_rest (fits_as (lots_two n) h) a

  pub one_put : {l m : List ℕ} {at e : ℕ} → first ≡ last → Put (field first) at l e m → Put (fields (lots_of L)) at l e m
  one_put n a = put_as (lots_one n) a

  pub two_put : {l m k : List ℕ} {at e f : ℕ} → (first ≡ last → ⊥) → Put (field first) at l e m → Put (field last) e m f k → Put (fields (lots_of L)) at l f k
  two_put n a b = put_as (lots_two n) (put_more a b)

-- The line of row i of a table, as the code finds its set and cuts its row out

module _ (n a i : ℕ) (table A : List ℕ) (few : a ≤ 2) (in-turn : i < row_count n a) (lost : A ≡ get_or (lost_sets n 2) i []) where
  abbrev line : List ℕ
  line = lost_line A (take (i * n + n - i * n) (drop (i * n) table))

  row_line : line ≡ table_line n a table i
  unfolding table_line row_at
  row_line =
      let k : i * n + n - i * n ≡ n = omega arith in
      ap₂ lost_line (lost ∙ sym (set_fewer n a i few in-turn)) (ap (λ (j : ℕ). take j (drop (i * n) table)) k)

  pub line_fits : {l m : List ℕ} {at e : ℕ} → Fits (pieces (table_line n a table) (row_count n a)) at l → Put (pieces (table_line n a table) i) at l e m → Fits line e m
  line_fits h b = fits_as (sym row_line) (pieces_fit (table_line n a table) (row_count n a) i in-turn h b)

  pub line_put : {l m k : List ℕ} {at e f : ℕ} → Put (pieces (table_line n a table) i) at l e m → Put line e m f k → Put (pieces (table_line n a table) (i + 1)) at l f k
  line_put b d = pieces_more (table_line n a table) i b (put_as (sym row_line) d)

pub lines_put : (n a i : ℕ) (table : List ℕ) {l m : List ℕ} {at e : ℕ} → i ≡ row_count n a → Put (pieces (table_line n a table) i) at l e m → Put (pieces (table_line n a table) (row_count n a)) at l e m
lines_put n a i table h b = rw h at b
