-- Laws of what the C interface adds: a row copied out.
-- Assumes nothing.
use mathlib.Core.Path.{◌≡◌, refl, ◌∙◌, ap}
use mathlib.Core.Bool.{◌&&◌}
use mathlib.Core.List.{List}
use Prim.Native.Nat.{ℕ, zero, suc, ◌*◌, ◌≤◌}
use native.Mathlib.Omega.{arith}
use lib.Dec.{eqb}
use lib.ListN.{length, take, drop, length-drop}
use lib.Seq.{length-take-le, take_all}
use borrow.Author.Tests.{eqb-true, eq-eqb, ne_eqb}
use Rattle.lex.proofs.Every.{and_left}
use Rattle.week.proofs.Tables.{passed_rest, passed_last}
use Rattle.repair.specs.Break.{lost_ok, row_number, row_count, row_at}
use Rattle.repair.specs.Service.{row_numbers, row_lengths, row_answer, row_part}
use Rattle.repair.proofs.Rows.{row_fits}
use Rattle.elurkantza.specs.Calls.{shown_answer, shown_order, Shown}

module _ (n a : ℕ) (order table A out : List ℕ) where
  pub shown_refused : (k : ℕ) → k ≡ row_answer n a order table A → (k ≡ 0 → ⊥) → Shown n a order table A out k out
  unfolding shown_answer shown_order
  shown_refused k e h =
      let refused = ne_eqb (row_answer n a order table A) 0 (λ z. h (e ∙ z)) in
      record { answer = rw refused e; buffer = rw (refused, refused) }

  module _ (fine : row_answer n a order table A ≡ 0) where
    pub shown_length : (length out ≡ n → ⊥) → Shown n a order table A out 2 out
    unfolding shown_answer shown_order
    shown_length h =
        let e = eq-eqb (row_answer n a order table A) 0 fine in
        let f = ne_eqb (length out) n h in
        record { answer = rw (e, f); buffer = rw (e, f) }

    order_length : length order ≡ n
    unfolding row_answer row_lengths
    order_length = eqb-true (length order) n (and_left (eqb (length order) n) (eqb (length table) (row_count n a * n)) (passed_last (row_lengths n a order table) 2 (λ z. omega arith) (passed_rest (row_numbers n a && lost_ok n 0 a A) 1 _ (λ z. omega arith) fine)))

    -- what row shows has n bytes
    part_length : length (row_part n a order table A) ≡ n
    unfolding row_part row_at
    part_length = go (length A) refl
      where
        go : (k : ℕ) → length A ≡ k → length (row_part n a order table A) ≡ n
        go zero e = rw (eq-eqb (row_answer n a order table A) 0 fine, eq-eqb (length A) 0 e) order_length
        go (suc k) e =
            let f = row_fits n a order table A fine (omega arith) in
            let d = length-drop (row_number n A * n) table in
            rw (eq-eqb (row_answer n a order table A) 0 fine, ne_eqb (length A) 0 (λ z. omega arith)) (length-take-le n (drop (row_number n A * n) table) (omega arith))

    pub shown_wide : length out ≡ n → (part : List ℕ) → part ≡ row_part n a order table A → length out ≤ length part
    shown_wide h part p = let l = ap length p in let m = part_length in omega arith

    pub shown_copied : length out ≡ n → (part o : List ℕ) → part ≡ row_part n a order table A → o ≡ take (length out) part → Shown n a order table A out 0 o
    unfolding shown_answer shown_order
    shown_copied h part o p c =
        let e = eq-eqb (row_answer n a order table A) 0 fine in
        let f = eq-eqb (length out) n h in
        let whole = take_all (length out) part (let l = ap length p in let m = part_length in omega arith) in
        record { answer = rw (e, f); buffer = rw (e, f) (c ∙ (whole ∙ p)) }
